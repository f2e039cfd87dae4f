use Rattle.jr_rule.proofs.RuleKept.Operations.{all_tell}
use Rattle.jr_rule.proofs.laws.steps_tell_of_operations.Goals as goal

pub returns-clause-told : goal.returns-clause-told
returns-clause-told g c = all_tell g.T.StepKind
