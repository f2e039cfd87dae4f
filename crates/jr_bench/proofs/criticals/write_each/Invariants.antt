use Rattle.std.proofs.Common.{◌≡◌, length}
use Rattle.jr_critical.specs.Levels.{objects_of}
use Rattle.jr_env.specs.Criticals.{levels_of}
use Rattle.jr_bench.proofs.criticals.write_each.Given as goal

abbrev pub invariant-loop-handle : goal.invariant-loop-handle
invariant-loop-handle g l = length (objects_of (levels_of l.region)) ≡ 1
