use Rattle.std.specs.Prelude.{◌≡◌}
use Rattle.jr_alive.specs.Groups.{present_to}
use Rattle.jr_alive.proofs.dump.Dump.present.Given as goal

abbrev pub invariant-loop-index : goal.invariant-loop-index
invariant-loop-index l = l.numbers.items ≡ present_to l.self l.index
