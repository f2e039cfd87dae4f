use Rattle.std.proofs.Common.{rules, ◌≡◌, ◌<◌, ap, subst, sym, length, ◌∙◌, map}
use Rattle.std.proofs.lemmas.List.{length-map}
use Rattle.jr_model.specs.declared.frames.TheConstants.{FRAMES}
use Rattle.jr_model.specs.Frames.{pushed}
use Rattle.jr_frames.specs.declared.frames.Frames.TheInside.{Inside as Fields}
use Rattle.jr_frames.specs.Table.{Table, with_frames}
use Rattle.jr_frames.specs.Places.{ref_at}
use Rattle.jr_frames.specs.Arrangements.{table, IsTable}
use Rattle.jr_frames.proofs.Changing.{changed}
use Rattle.jr_frames.proofs.Stacking.{pushed_shows, is_pushed}
use Rattle.jr_frames.proofs.frames.Frames.push.Goals as goal

fewer : (a : Fields) (t : Table) → table a ≡ t → length t.frames.frames < FRAMES → length a.order.lists < FRAMES
fewer a t e l = let same : length (table a).frames.frames ≡ length a.order.lists =
    length-map a.order.lists (map (ref_at a.thread a.places.items)) in
    subst (λ n. n < FRAMES) same (subst (λ (u : Table). length u.frames.frames < FRAMES) (sym e) l)

pub push-requires : goal.push-requires
push-requires c =
    let few = c.self.invariant.few in
    let numbers = c.self.invariant.numbers in
    let less = fewer c.self.inside _ c.self.view_is c.requires in
    search rules

pub invariant_of-self : goal.invariant_of-self
invariant_of-self c = subst (λ l. IsTable (changed c.self.inside c.self.inside.free c.self.inside.places l))
    (sym c.push.ensures)
    (pushed_shows c.self.inside c.self.invariant (fewer c.self.inside _ c.self.view_is c.requires))

pub returns : goal.returns
returns c =
    ap (λ l. table (changed c.self.inside c.self.inside.free c.self.inside.places l)) c.push.ensures
    ∙ (is_pushed c.self.inside c.self.invariant ∙ ap (λ (t : Table). with_frames t (pushed t.frames)) c.self.view_is)
