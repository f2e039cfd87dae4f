-- The frames that the table shows are sound.
use Rattle.std.proofs.Common.{◌≡◌, ◌==◌, ◌+◌, ◌-◌, ◌≤◌, ℕ, Bool, true, false, if◌then◌else◌}
use Rattle.std.proofs.Common.{List, [], ◌∷◌, map, refl, sym, subst, ◌∙◌, arith}
use Rattle.std.proofs.lemmas.List.{length-map}
use Rattle.std.proofs.Math.ListN.{get_or-map}
use Rattle.std.specs.List.{AllByRecursion, concat}
use Rattle.jr_model.specs.Frames.{AreSound, HaveOwnPlaces, IsNewest, all_refs}
use Rattle.jr_frames.specs.declared.frames.Frames.TheInside.{Inside as Fields}
use Rattle.jr_frames.specs.Places.{given_of, unused, place_at, is_taken, ref_at}
use Rattle.linked_lists.specs.Lists.{times}
use Rattle.jr_frames.specs.Arrangements.{table, IsTable}
use Rattle.linked_lists.proofs.Times.{times_here}
use Rattle.jr_frames.proofs.Places.{listed, any_ref}
use Rattle.jr_frames.proofs.Showing.{joined_map}

bit_one : (b : Bool) (n : ℕ) → 1 + n ≤ (if b then 1 else 0) → (b ≡ true) × (n ≡ 0)
bit_one true n l = (refl, omega arith)
bit_one false n l = absurd (omega arith)

less_one : (b : Bool) (n m : ℕ) → (if b then 1 else 0) + n ≤ m → n ≤ m
less_one b n m l = omega arith

module _ (a : Fields) (is : IsTable a) where
  -- the list has taken places alone, each once
  abbrev AreTakenOnce : List ℕ → Type 0
  AreTakenOnce xs = (q : ℕ) → times q xs ≤ (if is_taken a.places.items q then 1 else 0)

  first_taken : (x : ℕ) (xs : List ℕ) → AreTakenOnce (x ∷ xs) → (is_taken a.places.items x ≡ true) × (times x xs ≡ 0)
  first_taken x xs once = let l = once x in let e = times_here x xs in
      bit_one (is_taken a.places.items x) (times x xs) (omega arith)

  rest_taken : (x : ℕ) (xs : List ℕ) → AreTakenOnce (x ∷ xs) → AreTakenOnce xs
  rest_taken x xs once q = less_one (x == q) (times q xs) _ (once q)

  own_places : (xs : List ℕ) → AreTakenOnce xs → HaveOwnPlaces (map (ref_at a.thread a.places.items) xs)
  own_places [] once = tt
  own_places (x ∷ xs) once = (
    any_ref a.thread a.places.items x xs ∙ listed x xs false (first_taken x xs once).1,
    own_places xs (rest_taken x xs once),
  )

  last_handles : (xs : List ℕ) → AreTakenOnce xs
      → AllByRecursion (IsNewest (table a).frames) (map (ref_at a.thread a.places.items) xs)
  last_handles [] once = tt
  last_handles (x ∷ xs) once =
      let some = is.given x (first_taken x xs once).0 in
      let same : given_of (place_at a.places.items x) ≡ given_of (place_at a.places.items x) - 1 + 1 = omega arith in
      (get_or-map given_of a.places.items x unused ∙ same, last_handles xs (rest_taken x xs once))

  all_taken : AreTakenOnce (concat a.order.lists)
  all_taken q = let e = is.once q in omega arith

  refs_are : all_refs (table a).frames ≡ map (ref_at a.thread a.places.items) (concat a.order.lists)
  refs_are = joined_map (ref_at a.thread a.places.items) a.order.lists

  pub sound : AreSound (table a).frames
  sound = record {
    some_frame = let n = length-map a.order.lists (map (ref_at a.thread a.places.items)) in let l = is.some_frame in
        omega arith;
    few_frames = let n = length-map a.order.lists (map (ref_at a.thread a.places.items)) in let l = is.few_frames in
        omega arith;
    apart = subst HaveOwnPlaces (sym refs_are) (own_places (concat a.order.lists) all_taken);
    newest = subst (AllByRecursion (IsNewest (table a).frames)) (sym refs_are)
        (last_handles (concat a.order.lists) all_taken);
  }
