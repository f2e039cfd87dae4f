use Rattle.std.proofs.Common.{◌≡◌, ◌≤◌, ◌++◌, ◌∷◌, [], length, map}
use Rattle.std.specs.Arc.{arc_value}
use Rattle.std.specs.List.{All}
use Rattle.jr_rule.specs.declared.pass.Pass.{Pass}
use Rattle.jr_rule.specs.Passes.{IsOpened}
use Rattle.jr_owned.proofs.code.start_each.Given as goal

abbrev pub invariant-loop-pass : goal.invariant-loop-pass
invariant-loop-pass g l = (arc_value l.room ≡ l.fn.room)
    × ((arc_value l.code ≡ l.fn.code)
    × (All (λ (p : Pass). IsOpened l.fn.room.row p) l.pass-iterator.rest.items
    × (IsOpened l.fn.room.row l.last
    × ((map (λ h. h.promise.pass.value) l.threads.items ++ (l.pass-iterator.rest.items ++ l.last ∷ [])
    ≡ l.fn.passes.items)
    × (All (λ h. h.promise.code.value ≡ l.fn.code) l.threads.items × (length l.fn.passes.items ≤ l.threads.cap))))))
