-- The oldest reference of a frame.
use Rattle.std.proofs.Common.{◌≡◌, ◌≢◌, ◌==◌, ◌+◌, ◌-◌, ◌<◌, ◌≤◌, ℕ, zero, suc, Bool, true, false}
use Rattle.std.proofs.Common.{not, if◌then◌else◌, IsSome, Some, None, List, [], ◌∷◌, drop, map}
use Rattle.std.proofs.Common.{length, slice_set, refl, sym, ap, subst, ◌∙◌, arith}
use Rattle.std.proofs.lemmas.List.{map-set}
use Rattle.std.proofs.Math.ListN.{get_or-map}
use Rattle.std.specs.List.{concat}
use Rattle.linked_lists.specs.Lists.{first_listed, list_at, times, without_number}
use Rattle.linked_lists.proofs.Times.{times_append, times_here, map_without_none, without_here, without_none}
use Rattle.linked_lists.proofs.Shown.{times_at}
use Rattle.jr_word.specs.declared.handle.RefKind.TheVariants.{Local}
use Rattle.jr_model.specs.State.{Handle}
use Rattle.jr_model.specs.Frames.{object_of}
use Rattle.jr_frames.specs.declared.frames.Frames.TheInside.{Inside as Fields}
use Rattle.jr_frames.specs.Table.{TakesOldestOf, frame_at, oldest_handle, without_oldest}
use Rattle.jr_frames.specs.Places.{given_of, place_at, is_taken, ref_at}
use Rattle.jr_frames.specs.Arrangements.{table, IsTable}
use Rattle.jr_frames.proofs.Named.{named_object, taken_index}
use Rattle.jr_frames.proofs.Deleting.{frames_without}

bit_true : (b : Bool) (n m : ℕ) → n ≡ (if b then 1 else 0) → 1 + m ≤ n → b ≡ true
bit_true true n m e l = refl
bit_true false n m e l = absurd (omega arith)

-- the first number of a list is taken out of it, where it is in no other
set_without : (p k : ℕ) (rest : List ℕ) (rs : List (List ℕ)) → list_at rs k ≡ p ∷ rest → times p (concat rs) ≤ 1
    → map (without_number p) rs ≡ slice_set rs k rest
set_without p zero rest [] e one = refl
set_without p zero rest (x ∷ xs) e one =
    let here : times p x ≡ 1 + times p rest = ap (times p) e ∙ times_here p rest in
    ap (λ l. l ∷ map (without_number p) xs) (ap (without_number p) e ∙ (without_here p rest
    ∙ without_none p rest (omega (arith, times_append p x (concat xs)))))
    ∙ ap (λ l. rest ∷ l) (map_without_none p xs (omega (arith, times_append p x (concat xs))))
set_without p (suc k) rest [] e one = refl
set_without p (suc k) rest (x ∷ xs) e one =
    let here : times p (list_at xs k) ≡ 1 + times p rest = ap (times p) e ∙ times_here p rest in
    ap (λ l. l ∷ map (without_number p) xs)
    (without_none p x (omega (arith, times_append p x (concat xs), times_at p k xs)))
    ∙ ap (λ l. x ∷ l) (set_without p k rest xs e (omega (arith, times_append p x (concat xs))))

-- the place of the oldest reference of a frame
pub record IsOldest (a : Fields) (k p : ℕ) : Type 0 where
  pub at : list_at a.order.lists k ≡ p ∷ drop 1 (list_at a.order.lists k)
  pub taken : is_taken a.places.items p ≡ true

module _ (a : Fields) (is : IsTable a) (k : ℕ) where
  frame_is : frame_at (table a).frames.frames k ≡ map (ref_at a.thread a.places.items) (list_at a.order.lists k)
  frame_is = get_or-map (map (ref_at a.thread a.places.items)) a.order.lists k []

  pub empty_at : None ≡ first_listed (list_at a.order.lists k) → frame_at (table a).frames.frames k ≡ []
  empty_at e = frame_is ∙ none (list_at a.order.lists k) e
    where
      none : (xs : List ℕ) → None ≡ first_listed xs → map (ref_at a.thread a.places.items) xs ≡ []
      none [] e = refl
      none (x ∷ xs) e = absurd cc

  pub oldest_at : (p : ℕ) → Some p ≡ first_listed (list_at a.order.lists k) → IsOldest a k p
  oldest_at p e =
      let at = first (list_at a.order.lists k) e in
      let here : times p (list_at a.order.lists k) ≡ 1 + times p (drop 1 (list_at a.order.lists k)) =
      ap (times p) at ∙ times_here p _ in
      record {
        at = at;
        taken = bit_true (is_taken a.places.items p) (times p (concat a.order.lists)) 0 (is.once p)
            (omega (arith, times_at p k a.order.lists));
      }
    where
      first : (xs : List ℕ) → Some p ≡ first_listed xs → xs ≡ p ∷ drop 1 xs
      first [] e = absurd cc
      first (x ∷ xs) e = ap (λ y. y ∷ xs) (let same : x ≡ p = cc in same)

  module _ (p : ℕ) (oldest : IsOldest a k p) where
    pub oldest_low : p < length a.places.items
    oldest_low = taken_index a.places.items p oldest.taken

    pub oldest_given : 1 ≤ given_of (place_at a.places.items p)
    oldest_given = is.given p oldest.taken

    abbrev pub handle_of : Handle
    handle_of = record { kind = Local; serial = given_of (place_at a.places.items p) - 1; index = p; owner = a.thread }

    refs_are : frame_at (table a).frames.frames k
        ≡ ref_at a.thread a.places.items p ∷ map (ref_at a.thread a.places.items) (drop 1 (list_at a.order.lists k))
    refs_are = frame_is ∙ ap (map (ref_at a.thread a.places.items)) oldest.at

    pub is_oldest : oldest_handle (frame_at (table a).frames.frames k) ≡ Some handle_of
    is_oldest = ap oldest_handle refs_are

    pub oldest_stands : IsSome (object_of (table a).frames handle_of)
    oldest_stands =
        let given = oldest_given in
        let back : given_of (place_at a.places.items p) - 1 + 1 ≡ given_of (place_at a.places.items p) = omega arith in
        subst (λ o. IsSome o) (sym (named_object a is handle_of (some_object p oldest.taken) refl back refl)) refl
      where
        some_object : (q : ℕ) → is_taken a.places.items q ≡ true → (place_at a.places.items q).object ≢ 0
        some_object q e none =
            absurd (let zero_is : is_taken a.places.items q ≡ false = ap (λ n. not (n == 0)) none in cc)

    pub takes_oldest : TakesOldestOf (table a).frames k handle_of
    takes_oldest =
        let once : times p (concat a.order.lists) ≡ 1 = is.once p ∙ ap (λ b. if b then 1 else 0) oldest.taken in
        frames_without a is handle_of oldest_stands
        ∙ (ap (map (map (ref_at a.thread a.places.items))) (set_without p k _ a.order.lists oldest.at (omega arith))
        ∙ (map-set (map (ref_at a.thread a.places.items)) a.order.lists k _
        ∙ ap (slice_set (map (map (ref_at a.thread a.places.items)) a.order.lists) k)
        (sym (ap without_oldest refs_are))))
