-- The newest frame is taken away, one reference after the other.
use Rattle.std.proofs.Common.{◌≡◌, ◌<◌, Some, List, [], ◌∷◌, ◌++◌, length, refl, sym, ap, subst, ◌∙◌, arith}
use Rattle.std.proofs.lemmas.List.{append-nil}
use Rattle.jr_model.specs.declared.event.Role.TheVariants.{Within}
use Rattle.jr_model.specs.declared.event.Act.{Act}
use Rattle.jr_model.specs.declared.event.Act.TheVariants.{LocalDrop}
use Rattle.jr_model.specs.declared.frames.LocalRef.{LocalRef}
use Rattle.jr_model.specs.State.{Handle}
use Rattle.jr_model.specs.Frames.{Frames, joined, last_frame, frames_before, popped, without_local}
use Rattle.jr_model.specs.Parts.{take_frame}
use Rattle.jr_steps.specs.Knowing.{AreOf, Facts}
use Rattle.jr_frames.specs.Table.{Table, TakesOldest, oldest_handle, with_frames}
use Rattle.jr_frames.specs.Popping.{IsPopping}
use Rattle.jr_frames.proofs.Popping.{pop_begins, pop_goes_on, pop_ends}
use Rattle.jr_frames.specs.Dropping.{dropping, Drops}
use Rattle.jr_frames.specs.Ready.{StandsReady, KeepsOwner}
use Rattle.jr_frames.proofs.StillReady.{same_owner}
use Rattle.jr_frames.proofs.Dropping.{drops_nothing, drops_then, drops_as, ready_dropped, owner_then}

-- without an empty last frame the references are the same
joined_before : (fs : List (List LocalRef)) → last_frame fs ≡ [] → joined (frames_before fs) ≡ joined fs
joined_before [] e = refl
joined_before (x ∷ []) e = sym (append-nil x ∙ e)
joined_before (x ∷ y ∷ xs) e = ap (λ l. x ++ l) (joined_before (y ∷ xs) e)

module _ {S : Type 0} (facts : S → Facts) where
  -- so far the oldest references of the newest frame were taken out, and no others
  pub record IsTaking (old new : S) (before after : Table) : Type 0 where
    pub acts : List Act
    pub popping : IsPopping before.frames acts after.frames
    pub ready : StandsReady facts Within new after
    pub owner : KeepsOwner before after
    pub drops : Drops facts old new before.frames after.frames (dropping acts)

module _ {S : Type 0} {facts : S → Facts} (fits : AreOf facts) where
  pub takes_nothing : {a : S} {t : Table} → StandsReady facts Within a t → IsTaking facts a a t t
  takes_nothing {a} {t} r = record {
    acts = [];
    popping = pop_begins t.frames;
    ready = r;
    owner = same_owner t;
    drops = drops_nothing fits a t.frames;
  }

  module _ {a b : S} {t u : Table} (so : IsTaking facts a b t u) where
    takes : (v : Table) (h : Handle) → oldest_handle (last_frame u.frames.frames) ≡ Some h → TakesOldest u.frames h
        → v.frames ≡ without_local u.frames h
        → IsPopping t.frames (so.acts ++ LocalDrop h.index ∷ []) v.frames
        × (length (last_frame v.frames.frames) < length (last_frame u.frames.frames))
    takes v h oldest rest deleted =
        let next = pop_goes_on t.frames u.frames so.acts h so.popping oldest rest in
        let fewer = next.1 in
        subst (λ (f : Frames). IsPopping t.frames (so.acts ++ LocalDrop h.index ∷ []) f
        × (length (last_frame f.frames) < length (last_frame u.frames.frames))) (sym deleted) (next.0, omega arith)

    -- one more is taken out
    pub takes_one : {c : S} (v : Table) (h : Handle) → oldest_handle (last_frame u.frames.frames) ≡ Some h
        → TakesOldest u.frames h → v.frames ≡ without_local u.frames h → KeepsOwner u v
        → Drops facts b c u.frames v.frames (dropping (LocalDrop h.index ∷ []))
        → IsTaking facts a c t v
    takes_one v h oldest rest deleted owner drops = record {
      acts = so.acts ++ LocalDrop h.index ∷ [];
      popping = (takes v h oldest rest deleted).0;
      ready = ready_dropped so.ready owner drops;
      owner = owner_then so.owner owner;
      drops = drops_then so.drops drops;
    }

  module _ {a b : S} {t u v : Table} (so : IsTaking facts a b t u) (empty : last_frame u.frames.frames ≡ [])
      (is : v ≡ with_frames u (popped u.frames)) where
    -- and then the frame itself
    pub takes_frame : Drops facts a b t.frames v.frames take_frame
    takes_frame = subst (λ (x : Table). Drops facts a b t.frames x.frames take_frame) (sym is)
        (drops_as fits (pop_ends t.frames u.frames so.acts so.popping empty) (joined_before u.frames.frames empty) refl
        so.drops)
