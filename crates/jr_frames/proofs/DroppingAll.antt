-- All local references are freed, one after the other.
use Rattle.std.proofs.Common.{◌≡◌, ◌≤◌, ◌<◌, ◌+◌, ◌-◌, ℕ, Some, List, [], ◌∷◌}
use Rattle.std.proofs.Common.{◌++◌, length, refl, sym, ap, subst, ◌∙◌, arith}
use Rattle.std.proofs.lemmas.List.{length-append, length-map}
use Rattle.jr_model.specs.declared.event.Role.TheVariants.{Within}
use Rattle.jr_model.specs.declared.event.Act.{Act}
use Rattle.jr_model.specs.declared.event.Act.TheVariants.{LocalDrop}
use Rattle.jr_model.specs.declared.frames.LocalRef.{LocalRef}
use Rattle.jr_model.specs.State.{Handle}
use Rattle.jr_model.specs.Frames.{Frames, all_refs, drop_all, last_frame, frames_before, popped, freed, without_local}
use Rattle.jr_model.specs.References.{freeing}
use Rattle.jr_steps.specs.Knowing.{AreOf, Facts}
use Rattle.jr_frames.specs.Table.{Table, TakesOldestOf, oldest_handle, frame_at, with_frames}
use Rattle.jr_frames.specs.Freeing.{IsFreeing, IsEmptied}
use Rattle.jr_frames.proofs.Freeing.{free_begins, free_goes_on, free_turns, free_empties, empty_is_popped, free_ends}
use Rattle.jr_frames.specs.Dropping.{dropping, Drops}
use Rattle.jr_frames.specs.Ready.{StandsReady, KeepsOwner}
use Rattle.jr_frames.proofs.StillReady.{same_owner}
use Rattle.jr_frames.proofs.Dropping.{drops_nothing, drops_then, drops_as, ready_dropped, owner_then}

-- one reference fewer is left after one act more
left_less : (whole xs ys zs : List Act) (x : Act) (n m : ℕ) → whole ≡ xs ++ ys → whole ≡ (xs ++ x ∷ []) ++ zs
    → length ys ≡ n → length zs ≡ m → m < n
left_less whole xs ys zs x n m e f g h =
    let first : length whole ≡ length xs + length ys = ap length e ∙ length-append xs ys in
    let second : length whole ≡ length (xs ++ x ∷ []) + length zs = ap length f ∙ length-append (xs ++ x ∷ []) zs in
    let front : length (xs ++ x ∷ []) ≡ length xs + length (x ∷ []) = length-append xs (x ∷ []) in
    omega arith

drop_length : (rs : List LocalRef) → length (drop_all rs) ≡ length rs
drop_length rs = length-map rs _

module _ {S : Type 0} (facts : S → Facts) where
  -- so far the references of the frames before this one were taken out, and the oldest ones of it, and no others
  pub record IsFreeingSo (old new : S) (before after : Table) (frame : ℕ) : Type 0 where
    pub acts : List Act
    pub freeing : IsFreeing before.frames frame acts after.frames
    pub low : frame ≤ length after.frames.frames
    pub ready : StandsReady facts Within new after
    pub owner : KeepsOwner before after
    pub drops : Drops facts old new before.frames after.frames (dropping acts)

module _ {S : Type 0} {facts : S → Facts} (fits : AreOf facts) where
  pub frees_nothing : {a : S} {t : Table} → StandsReady facts Within a t → IsFreeingSo facts a a t t 0
  frees_nothing {a} {t} r = record {
    acts = [];
    freeing = free_begins t.frames;
    low = omega arith;
    ready = r;
    owner = same_owner t;
    drops = drops_nothing fits a t.frames;
  }

  module _ {a b : S} {t u : Table} {frame : ℕ} (so : IsFreeingSo facts a b t u frame) where
    -- the next frame has its turn
    pub frees_next : frame < length u.frames.frames → frame_at u.frames.frames frame ≡ []
        → IsFreeingSo facts a b t u (frame + 1)
    frees_next l empty = record {
      acts = so.acts;
      freeing = free_turns t.frames u.frames frame so.acts so.freeing empty;
      low = omega arith;
      ready = so.ready;
      owner = so.owner;
      drops = so.drops;
    }

    module _ (v : Table) (h : Handle) (oldest : oldest_handle (frame_at u.frames.frames frame) ≡ Some h)
        (rest : TakesOldestOf u.frames frame h) (deleted : v.frames ≡ without_local u.frames h) where
      freed_one : IsFreeing t.frames frame (so.acts ++ LocalDrop h.index ∷ []) v.frames
      freed_one = subst (IsFreeing t.frames frame (so.acts ++ LocalDrop h.index ∷ [])) (sym deleted)
          (free_goes_on t.frames u.frames frame so.acts h so.freeing oldest rest).0

      -- one more is taken out
      pub frees_one : {c : S} → KeepsOwner u v → Drops facts b c u.frames v.frames (dropping (LocalDrop h.index ∷ []))
          → IsFreeingSo facts a c t v frame
      frees_one owner drops =
          let low = so.low in
          let before = so.freeing.depth in
          let after = freed_one.depth in
          record {
            acts = so.acts ++ LocalDrop h.index ∷ [];
            freeing = freed_one;
            low = omega arith;
            ready = ready_dropped so.ready owner drops;
            owner = owner_then so.owner owner;
            drops = drops_then so.drops drops;
          }

      -- and then fewer are left in as many frames
      pub frees_fewer : (length v.frames.frames - frame) + length (all_refs v.frames)
          < (length u.frames.frames - frame) + length (all_refs u.frames)
      frees_fewer =
          let before = so.freeing.depth in
          let after = freed_one.depth in
          let less =
          left_less _ so.acts _ _ (LocalDrop h.index) (length (all_refs u.frames)) (length (all_refs v.frames))
          so.freeing.taken freed_one.taken (drop_length (all_refs u.frames)) (drop_length (all_refs v.frames)) in
          omega arith

  module _ {a b : S} {t u : Table} (frame : ℕ) (so : IsFreeingSo facts a b t u frame)
      (all : length u.frames.frames ≤ frame) where
    emptied : IsEmptied t.frames so.acts u.frames
    emptied =
        let low = so.low in
        let depth = so.freeing.depth in
        let last : frame ≡ length t.frames.frames = omega arith in
        free_empties t.frames u.frames so.acts (subst (λ k. IsFreeing t.frames k so.acts u.frames) last so.freeing)

    -- after the last frame none is left
    pub frees_all : Drops facts a b t.frames u.frames (dropping (drop_all (all_refs t.frames)))
    frees_all = subst (λ l. Drops facts a b t.frames u.frames (dropping l)) emptied.taken so.drops

    pub frees_none_left : all_refs u.frames ≡ []
    frees_none_left = emptied.none

    pub frees_given : u.frames.given ≡ t.frames.given
    frees_given = emptied.given

  -- the work as a whole
  pub frees : {a b : S} {f g h : Frames} → Drops facts a b f g (dropping (drop_all (all_refs f))) → all_refs g ≡ []
      → g.given ≡ f.given → h ≡ freed f → Drops facts a b f h freeing
  frees {f = f} p none given is = drops_as fits (refl, refl, is) (ap all_refs is ∙ sym none)
      (ap (λ (x : Frames). x.given) is ∙ sym given) p

-- EMPTY FRAMES are taken away
pub record IsFreed (before after : Table) : Type 0 where
  pub emptied : IsEmptied before.frames (drop_all (all_refs before.frames)) after.frames
  pub thread : after.thread ≡ before.thread
  pub last : after.last ≡ before.last

shorter : (fs : List (List LocalRef)) → 2 ≤ length fs → length (frames_before fs) < length fs
shorter [] l = absurd (omega arith)
shorter (x ∷ []) l = omega arith
shorter (x ∷ y ∷ []) l = omega arith
shorter (x ∷ y ∷ z ∷ xs) l = let rest = shorter (y ∷ z ∷ xs) (omega arith) in omega arith

pub freed_begins : (t : Table) → all_refs t.frames ≡ [] → IsFreed t t
freed_begins t none =
    record { emptied = record { taken = refl; none = none; given = refl }; thread = refl; last = refl }

module _ {t u : Table} (so : IsFreed t u) where
  pub freed_last : 2 ≤ length u.frames.frames → last_frame u.frames.frames ≡ []
  freed_last more = (empty_is_popped t.frames u.frames _ so.emptied more).0

  pub freed_owner : KeepsOwner t u
  freed_owner = record { thread = so.thread; last = so.last; places = ap length so.emptied.given }

  pub freed_ends : length u.frames.frames ≡ 1 → u.frames ≡ freed t.frames
  freed_ends one = (free_ends t.frames u.frames _ so.emptied one).2

pub freed_fewer : (t u v : Table) → IsFreed t u → v ≡ with_frames u (popped u.frames) → 2 ≤ length u.frames.frames
    → IsFreed t v
freed_fewer t u v so is more = subst (IsFreed t) (sym is)
    (record { emptied = (empty_is_popped t.frames u.frames _ so.emptied more).2; thread = so.thread; last = so.last })

pub freed_shorter : (u v : Table) → v ≡ with_frames u (popped u.frames) → 2 ≤ length u.frames.frames
    → length v.frames.frames < length u.frames.frames
freed_shorter u v is l =
    subst (λ (x : Table). length x.frames.frames < length u.frames.frames) (sym is) (shorter u.frames.frames l)
