use Rattle.std.proofs.Common.{◌≡◌, ◌≤◌, ap, subst, sym, length, ◌∙◌, map, lit<, arith}
use Rattle.std.proofs.lemmas.List.{length-map}
use Rattle.jr_model.specs.Frames.{popped, last_frame}
use Rattle.jr_frames.specs.declared.frames.Frames.TheInside.{Inside as Fields}
use Rattle.jr_frames.specs.Table.{Table, with_frames}
use Rattle.jr_frames.specs.Places.{ref_at}
use Rattle.jr_frames.specs.Arrangements.{table, IsTable}
use Rattle.jr_frames.proofs.Changing.{changed}
use Rattle.jr_frames.proofs.Stacking.{popped_shows, is_popped, empty_last}
use Rattle.jr_frames.proofs.frames.Frames.pop_empty.Goals as goal

two : (a : Fields) (t : Table) → table a ≡ t → 2 ≤ length t.frames.frames → 2 ≤ length a.order.lists
two a t e l = let same : length (table a).frames.frames ≡ length a.order.lists =
    length-map a.order.lists (map (ref_at a.thread a.places.items)) in
    subst (λ n. 2 ≤ n) same (subst (λ (u : Table). 2 ≤ length u.frames.frames) (sym e) l)

pub pop-requires : goal.pop-requires
pop-requires c =
    let above = two c.self.inside _ c.self.view_is c.requires.above in (
      lit< tt,
      (
        omega arith,
        empty_last c.self.inside
            (ap (λ (t : Table). last_frame t.frames.frames) c.self.view_is ∙ c.requires.empty),
      ),
    )

pub invariant_of-self : goal.invariant_of-self
invariant_of-self c = subst (λ l. IsTable (changed c.self.inside c.self.inside.free c.self.inside.places l))
    (sym c.pop.ensures)
    (popped_shows c.self.inside c.self.invariant (two c.self.inside _ c.self.view_is c.requires.above)
    (empty_last c.self.inside (ap (λ (t : Table). last_frame t.frames.frames) c.self.view_is ∙ c.requires.empty)))

pub returns : goal.returns
returns c =
    ap (λ l. table (changed c.self.inside c.self.inside.free c.self.inside.places l)) c.pop.ensures
    ∙ (is_popped c.self.inside c.self.invariant ∙ ap (λ (t : Table). with_frames t (popped t.frames)) c.self.view_is)
