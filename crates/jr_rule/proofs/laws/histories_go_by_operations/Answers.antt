use Rattle.jr_rule.proofs.RuleKept.Operations.{along, stands_behind}
use Rattle.jr_rule.proofs.laws.histories_go_by_operations.Goals as goal

pub returns-clause-order : goal.returns-clause-order
returns-clause-order c = along

pub returns-clause-behind : goal.returns-clause-behind
returns-clause-behind c = stands_behind
