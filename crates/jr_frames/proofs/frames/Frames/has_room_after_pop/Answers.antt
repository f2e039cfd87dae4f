use Rattle.std.proofs.Common.{◌≡◌, ◌≤◌, ◌-◌, ℕ, Bool, true, false, suc, length}
use Rattle.std.proofs.Common.{IsTrue, ◌↔◌, refl, sym, subst, ◌∙◌, arith}
use Rattle.jr_model.specs.Frames.{free_places, popped}
use Rattle.jr_frames.specs.declared.frames.Frames.TheInside.{Inside as Fields}
use Rattle.jr_frames.specs.Table.{Table}
use Rattle.jr_frames.specs.Arrangements.{table, IsTable}
use Rattle.jr_frames.proofs.PopRoom.{room_already, newest_frame, room_then, room_never}
use Rattle.jr_frames.proofs.frames.Frames.has_room_after_pop.Goals as goal

at_end : (a : Fields) (count : ℕ) → IsTable a → count ≡ length a.order.lists → suc (count - 1) ≡ length a.order.lists
at_end a count is e = let some = is.some_frame in omega arith

shown : (t : Table) (a : Fields) → table a ≡ t → 1 ≤ free_places a.last (popped (table a).frames)
    → 1 ≤ free_places t.last (popped t.frames)
shown t a e l = subst (λ (u : Table). 1 ≤ free_places u.last (popped u.frames)) e l

shown_none : (t : Table) (a : Fields) → table a ≡ t → free_places a.last (popped (table a).frames) ≡ 0
    → free_places t.last (popped t.frames) ≡ 0
shown_none t a e l = subst (λ (u : Table). free_places u.last (popped u.frames) ≡ 0) e l

-- a test that says whether there are any
decides : (b : Bool) (n : ℕ) → (b ≡ true → 1 ≤ n) → (b ≡ false → n ≡ 0) → IsTrue b ↔ (1 ≤ n)
decides true n some none = ((λ t. some refl), (λ l. refl))
decides false n some none = ((λ t. absurd cc), (λ l. absurd (let z = none refl in omega arith)))

pub returns-then-self-gt0 : goal.returns-then-self-gt0
returns-then-self-gt0 c = (
  (λ t. shown _ c.self.inside c.self.view_is
      (room_already c.self.inside c.self.invariant (let some = c.if-self-gt0.true in omega arith))),
  (λ l. refl),
)

pub any_gives_again-requires : goal.any_gives_again-requires
any_gives_again-requires c = newest_frame c.self.inside c.self.invariant
    (c.len.result - 1) (at_end c.self.inside c.len.result c.self.invariant c.len.ensures)

pub returns : goal.returns
returns c =
    let end = at_end c.self.inside c.len.result c.self.invariant c.len.ensures in
    decides c.any_gives_again.result _
    (λ e. shown _ c.self.inside c.self.view_is
    (room_then c.self.inside c.self.invariant (c.len.result - 1) end (sym c.any_gives_again.ensures ∙ e)))
    (λ e. shown_none _ c.self.inside c.self.view_is
    (room_never c.self.inside c.self.invariant (c.len.result - 1) end
    (sym c.any_gives_again.ensures ∙ e) (let zero_free = c.if-self-gt0.false in omega arith)))
