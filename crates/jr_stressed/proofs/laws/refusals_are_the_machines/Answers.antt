use Rattle.jr_stressed.proofs.Listed.{lists_the_machines}
use Rattle.jr_stressed.proofs.laws.refusals_are_the_machines.Goals as goal

pub returns : goal.returns
returns cc c = lists_the_machines c
