-- How all local references are freed, one after the other.
use Rattle.std.proofs.Common.{◌≡◌, ◌≤◌, ◌+◌, ℕ, zero, suc, Some, List, [], ◌∷◌, ◌++◌}
use Rattle.std.proofs.Common.{take, length, slice_set, refl, sym, ap, subst, ◌∙◌, arith}
use Rattle.std.proofs.lemmas.List.{append_assoc, append-nil, length-map, take_all}
use Rattle.std.specs.List.{AllByRecursion}
use Rattle.jr_model.specs.declared.event.Act.{Act}
use Rattle.jr_model.specs.declared.event.Act.TheVariants.{LocalDrop}
use Rattle.jr_model.specs.declared.frames.LocalRef.{LocalRef}
use Rattle.jr_model.specs.State.{Handle}
use Rattle.jr_model.specs.Frames.{all_refs, joined, drop_all, last_frame, frames_before, without_local}
use Rattle.jr_frames.specs.Table.{oldest_handle, without_oldest, frame_at}
use Rattle.jr_frames.specs.Freeing.{FreeBegins, FreeGoesOn, FreeTurns, FreeEmpties, EmptyIsPopped, FreeEnds}
use Rattle.jr_frames.proofs.Changing.{frames_same}
use Rattle.jr_frames.proofs.Popping.{drop_oldest}

abbrev AreEmpty : List (List LocalRef) → Type 0
AreEmpty fs = AllByRecursion (λ rs. rs ≡ []) fs

-- where the frames before one are empty, its oldest reference is the oldest of all
drop_first : (h : Handle) (k : ℕ) (fs : List (List LocalRef)) → AreEmpty (take k fs)
    → oldest_handle (frame_at fs k) ≡ Some h
    → drop_all (joined fs) ≡ LocalDrop h.index ∷ drop_all (joined (slice_set fs k (without_oldest (frame_at fs k))))
drop_first h zero [] before e = absurd cc
drop_first h zero ([] ∷ xs) before e = absurd cc
drop_first h zero ((r ∷ rs) ∷ xs) before e = drop_oldest h (r ∷ rs ++ joined xs) e
drop_first h (suc k) [] before e = absurd cc
drop_first h (suc k) (x ∷ xs) before e =
    ap (λ rs. drop_all (rs ++ joined xs)) before.0
    ∙ (drop_first h k xs before.1 e
    ∙ sym (ap (λ rs. LocalDrop h.index ∷ drop_all (rs ++ joined (slice_set xs k (without_oldest (frame_at xs k)))))
    before.0))

-- the frames before one don't change with it
before_same : (k : ℕ) (rs : List LocalRef) (fs : List (List LocalRef)) → take k (slice_set fs k rs) ≡ take k fs
before_same zero rs [] = refl
before_same zero rs (x ∷ xs) = refl
before_same (suc k) rs [] = refl
before_same (suc k) rs (x ∷ xs) = ap (λ l. x ∷ l) (before_same k rs xs)

-- as many acts as references
fewer_refs : (a : Act) (rs qs : List LocalRef) → drop_all rs ≡ a ∷ drop_all qs → length rs ≡ suc (length qs)
fewer_refs a rs qs e = sym (length-map rs _) ∙ (ap length e ∙ ap suc (length-map qs _))

one_more : (k : ℕ) (fs : List (List LocalRef)) → AreEmpty (take k fs) → frame_at fs k ≡ [] → AreEmpty (take (suc k) fs)
one_more zero [] before e = tt
one_more zero (x ∷ xs) before e = (e, tt)
one_more (suc k) [] before e = tt
one_more (suc k) (x ∷ xs) before e = (before.0, one_more k xs before.1 e)

none_joined : (fs : List (List LocalRef)) → AreEmpty fs → joined fs ≡ []
none_joined [] all = refl
none_joined (x ∷ xs) all = ap (λ rs. rs ++ joined xs) all.0 ∙ none_joined xs all.1

none_front : (xs ys : List LocalRef) → xs ++ ys ≡ [] → (xs ≡ []) × (ys ≡ [])
none_front [] ys e = (refl, e)
none_front (x ∷ xs) ys e = absurd cc

all_none : (fs : List (List LocalRef)) → joined fs ≡ [] → AreEmpty fs
all_none [] e = tt
all_none (x ∷ xs) e = let both = none_front x (joined xs) e in (both.0, all_none xs both.1)

last_none : (fs : List (List LocalRef)) → AreEmpty fs → last_frame fs ≡ []
last_none [] all = refl
last_none (x ∷ []) all = all.0
last_none (x ∷ y ∷ xs) all = last_none (y ∷ xs) all.1

before_none : (fs : List (List LocalRef)) → AreEmpty fs → AreEmpty (frames_before fs)
before_none [] all = tt
before_none (x ∷ []) all = tt
before_none (x ∷ y ∷ xs) all = (all.0, before_none (y ∷ xs) all.1)

one_left : (fs : List (List LocalRef)) → 2 ≤ length fs → length fs ≡ suc (length (frames_before fs))
one_left [] l = absurd (omega arith)
one_left (x ∷ []) l = absurd (omega arith)
one_left (x ∷ y ∷ []) l = refl
one_left (x ∷ y ∷ z ∷ xs) l = ap suc (one_left (y ∷ z ∷ xs) (omega arith))

alone : (fs : List (List LocalRef)) → AreEmpty fs → length fs ≡ 1 → fs ≡ [] ∷ []
alone [] all e = absurd (omega arith)
alone (x ∷ []) all e = ap (λ rs. rs ∷ []) all.0
alone (x ∷ y ∷ xs) all e = absurd (omega arith)

pub free_begins : FreeBegins
free_begins f = record { taken = refl; before = none_taken f.frames; depth = refl; given = refl }
  where
    none_taken : (fs : List (List LocalRef)) → AreEmpty (take 0 fs)
    none_taken [] = tt
    none_taken (x ∷ xs) = tt

pub free_goes_on : FreeGoesOn
free_goes_on f now k acts h free oldest takes = (
  record {
    taken =
        free.taken
        ∙ (ap (λ l. acts ++ l) (drop_first h k now.frames free.before oldest
        ∙ ap (λ fs. LocalDrop h.index ∷ drop_all (joined fs)) (sym takes))
        ∙ sym (append_assoc acts (LocalDrop h.index ∷ []) _));
    before = subst AreEmpty (sym (ap (take k) takes ∙ before_same k _ now.frames)) free.before;
    depth = length-map now.frames _ ∙ free.depth;
    given = free.given;
  },
  fewer_refs (LocalDrop h.index) (all_refs now) (all_refs (without_local now h))
      (drop_first h k now.frames free.before oldest ∙ ap (λ fs. LocalDrop h.index ∷ drop_all (joined fs)) (sym takes)),
)

pub free_turns : FreeTurns
free_turns f now k acts free empty = record {
  taken = free.taken;
  before = let next : suc k ≡ k + 1 = omega arith in
      subst (λ n. AreEmpty (take n now.frames)) next (one_more k now.frames free.before empty);
  depth = free.depth;
  given = free.given;
}

pub free_empties : FreeEmpties
free_empties f now acts free =
    let same = free.depth in
    let none : all_refs now ≡ [] =
    none_joined now.frames (subst AreEmpty (take_all (length f.frames) now.frames (omega arith)) free.before) in
    record {
      taken = sym (free.taken ∙ (ap (λ rs. acts ++ drop_all rs) none ∙ append-nil acts));
      none = none;
      given = free.given;
    }

pub empty_is_popped : EmptyIsPopped
empty_is_popped f now acts emptied two =
    let all = all_none now.frames emptied.none in (
      last_none now.frames all,
      one_left now.frames two,
      record {
        taken = emptied.taken;
        none = none_joined (frames_before now.frames) (before_none now.frames all);
        given = emptied.given;
      },
    )

pub free_ends : FreeEnds
free_ends f now acts emptied one =
    (emptied.taken, refl, frames_same _ _ _ _ (alone now.frames (all_none now.frames emptied.none) one) emptied.given)
