use Rattle.jr_rule.proofs.RuleKept.Operations.{one, opened}
use Rattle.jr_rule.proofs.laws.rooms_have_one_history.Goals as goal

pub returns-clause-one : goal.returns-clause-one
returns-clause-one c = one

pub returns-clause-opened : goal.returns-clause-opened
returns-clause-opened c = opened
