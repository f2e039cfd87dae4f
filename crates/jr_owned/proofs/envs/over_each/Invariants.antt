use Rattle.std.specs.List.{AllZip}
use Rattle.jr_owned.specs.Owners.{IsEnvOver}
use Rattle.jr_owned.proofs.envs.over_each.Given as goal

abbrev pub invariant-loop-steps : goal.invariant-loop-steps
invariant-loop-steps g l = AllZip IsEnvOver l.yielded l.envs.items
