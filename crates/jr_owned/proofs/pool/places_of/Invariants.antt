use Rattle.std.proofs.Common.{◌≡◌, ◌+◌, length}
use Rattle.std.specs.Arc.{arc_value}
use Rattle.std.specs.List.{All}
use Rattle.jr_rule.specs.declared.pass.Pass.{Pass}
use Rattle.jr_rule.specs.Passes.{IsOpened}
use Rattle.jr_owned.proofs.pool.places_of.Given as goal

abbrev pub invariant-loop-pass : goal.invariant-loop-pass
invariant-loop-pass g l = (arc_value l.room ≡ l.fn.room)
    × (All (λ (p : Pass). IsOpened l.fn.room.row p) l.pass-iterator.rest.items
    × (length l.places.items + length l.pass-iterator.rest.items ≡ length l.fn.passes.items))
