-- A table of which one place was changed.
use Rattle.std.proofs.Common.{◌≡◌, ◌≢◌, ◌==◌, ◌-◌, ◌<◌, ℕ, Bool, true, false, cond, List}
use Rattle.std.proofs.Common.{[], ◌∷◌, map, length, slice_set, refl, sym, ap, subst, ◌∙◌}
use Rattle.std.proofs.lemmas.List.{length-set, get_or-set_same, get_or-set_other}
use Rattle.std.specs.List.{refill, concat}
use Rattle.arrayvec.specs.ArrayVec.{ArrayVec}
use Rattle.arrayvec.proofs.ArrayVecLemmas.{items-with_items}
use Rattle.jr_word.specs.declared.handle.RefKind.TheVariants.{Local}
use Rattle.jr_model.specs.declared.frames.LocalRef.{LocalRef}
use Rattle.jr_model.specs.Frames.{Frames, object_at}
use Rattle.jr_model.proofs.Updates.{eq_true, eq_false, eq_self, eq_other}
use Rattle.jr_frames.specs.declared.place.Place.{Place}
use Rattle.jr_frames.specs.declared.frames.Frames.TheInside.{Inside as Fields}
use Rattle.jr_frames.specs.Table.{IsOnly}
use Rattle.jr_frames.specs.Places.{given_of, unused, place_at, ref_at}
use Rattle.linked_lists.specs.Lists.{times, Lists}
use Rattle.jr_frames.specs.Arrangements.{table, IsTable}
use Rattle.linked_lists.proofs.Times.{not_first, none_left, none_right}
use Rattle.jr_frames.proofs.Places.{object_in, object_at_place}

-- the parts with others in place of those that change
abbrev pub changed : Fields → ℕ → ArrayVec Place → Lists → Fields
changed a free places order = record { thread = a.thread; last = a.last; free = free; places = places; order = order }

-- what holds of the new place, and of the others, holds of each place after the change
pub after_set : (R : ℕ → Place → Type 0) (places new : List Place) (p : ℕ) (x : Place) → p < length places
    → new ≡ slice_set places p x → R p x → ((q : ℕ) → q ≢ p → R q (place_at places q)) → (q : ℕ) → R q (place_at new q)
after_set R places new p x l is here others q = subst (λ ps. R q (place_at ps q)) (sym is) (go (q == p) refl)
  where
    go : (b : Bool) → (q == p) ≡ b → R q (place_at (slice_set places p x) q)
    go true e =
        subst (λ r. R r (place_at (slice_set places p x) r)) (sym (eq_true q p e))
        (subst (R p) (sym (get_or-set_same places p x unused l)) here)
    go false e = subst (R q) (sym (get_or-set_other places p q x unused (eq_false q p e))) (others q (eq_false q p e))

-- the reference that a place shows
abbrev pub shown : ℕ → ℕ → Place → LocalRef
shown thread q y =
    record { handle = record { kind = Local; serial = given_of y - 1; index = q; owner = thread }; object = y.object }

cons_same : (r s : LocalRef) (xs ys : List LocalRef) → r ≡ s → xs ≡ ys → r ∷ xs ≡ s ∷ ys
cons_same r s xs ys e f = cc

-- references of other places are as they were
pub refs_other : (thread : ℕ) (places new : List Place) (p : ℕ) → ((q : ℕ) → q ≢ p → place_at new q ≡ place_at places q)
    → (xs : List ℕ) → times p xs ≡ 0 → map (ref_at thread new) xs ≡ map (ref_at thread places) xs
refs_other thread places new p same [] none = refl
refs_other thread places new p same (x ∷ xs) none =
    let n = not_first p x xs none in
    cons_same (shown thread x (place_at new x)) (shown thread x (place_at places x)) _ _
    (ap (shown thread x) (same x n.0)) (refs_other thread places new p same xs n.1)

frame_same : (r s : List LocalRef) (xs ys : List (List LocalRef)) → r ≡ s → xs ≡ ys → r ∷ xs ≡ s ∷ ys
frame_same r s xs ys e f = cc

pub frames_other : (thread : ℕ) (places new : List Place) (p : ℕ)
    → ((q : ℕ) → q ≢ p → place_at new q ≡ place_at places q) → (rs : List (List ℕ)) → times p (concat rs) ≡ 0
    → map (map (ref_at thread new)) rs ≡ map (map (ref_at thread places)) rs
frames_other thread places new p same [] none = refl
frames_other thread places new p same (xs ∷ rest) none =
    frame_same _ _ _ _ (refs_other thread places new p same xs (none_left p xs (concat rest) none))
    (frames_other thread places new p same rest (none_right p xs (concat rest) none))

pub frames_same : (xs ys : List (List LocalRef)) (ns ms : List ℕ) → xs ≡ ys → ns ≡ ms
    → ◌≡◌ {A = Frames} (record { frames = xs; given = ns }) (record { frames = ys; given = ms })
frames_same xs ys ns ms e f = cc

-- the places after a place is written through the slice of them
abbrev pub with_place : ArrayVec Place → List Place → ℕ → (Place → Place) → ArrayVec Place
with_place places seen i change =
    record { items = refill (length places.items) places.items (slice_set seen i (change (place_at seen i))) }

pub with_place_is : (places : ArrayVec Place) (seen : List Place) (i j : ℕ) (change : Place → Place)
    → seen ≡ places.items → i ≡ j
    → (with_place places seen i change).items ≡ slice_set places.items j (change (place_at places.items j))
with_place_is places seen i j change same is =
    items-with_items places (slice_set seen i (change (place_at seen i))) (length-set seen i _ ∙ ap length same)
    ∙ (ap (λ ps. slice_set ps i (change (place_at ps i))) same
    ∙ ap (λ k. slice_set places.items k (change (place_at places.items k))) is)

module _ (a : Fields) (is : IsTable a) (p : ℕ)
    (l : p < length a.places.items) (x : Place) (places : ArrayVec Place)
    (set : places.items ≡ slice_set a.places.items p x) where
  pub changed_only : (n : ℕ) (order : Lists) → IsTable (changed a n places order)
      → IsOnly (table a).frames p (object_in x) (table (changed a n places order)).frames
  changed_only n order now q =
      object_at_place (changed a n places order) now q
      ∙ after_set (λ q y. object_in y ≡ cond (p == q) (object_in x) (object_at (table a).frames q))
      a.places.items places.items p x l set
      (sym (ap (λ b. cond b (object_in x) (object_at (table a).frames p)) (eq_self p)))
      (λ q ne. sym (object_at_place a is q)
      ∙ sym (ap (λ b. cond b (object_in x) (object_at (table a).frames q)) (eq_other p q (λ e. ne (sym e))))) q
