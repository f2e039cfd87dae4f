use Rattle.std.proofs.Common.{◌≡◌, map}
use Rattle.std.specs.Arc.{arc_value}
use Rattle.jr_rule.specs.Passes.{holder_of}
use Rattle.jr_owned.specs.Owners.{owner_of, AreOfRoom}
use Rattle.jr_owned.proofs.owned.hand_out.Given as goal

abbrev pub invariant-loop-pass : goal.invariant-loop-pass
invariant-loop-pass l = (arc_value l.room ≡ l.fn.room)
    × (AreOfRoom l.fn.room l.owners.items × (map owner_of l.owners.items ≡ map holder_of l.yielded))
