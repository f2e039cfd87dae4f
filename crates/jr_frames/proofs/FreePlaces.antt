-- The free places that the table shows.
use Rattle.std.proofs.Common.{◌≡◌, ◌==◌, ◌&&◌, ◌+◌, ◌<◌, ◌≤◌, ℕ, List, [], ◌∷◌, Bool, true, false}
use Rattle.std.proofs.Common.{Some, None, not, nat_le, if◌then◌else◌, length, refl, sym, ap, ◌∙◌, arith}
use Rattle.std.proofs.lemmas.List.{length-map}
use Rattle.std.proofs.lemmas.Bool.Decides.{nat_tests}
use Rattle.std.proofs.Math.ListN.{get_or-map}
use Rattle.jr_word.specs.declared.handle.RefKind.TheVariants.{Local}
use Rattle.jr_model.specs.State.{Handle}
use Rattle.jr_model.specs.Maps.{sum_below}
use Rattle.jr_model.specs.Frames.{is_free, free_places}
use Rattle.jr_model.proofs.Lengths.{sum_same, sum_none}
use Rattle.jr_model.proofs.Counts.{sum_at}
use Rattle.jr_frames.specs.declared.place.Place.{Place}
use Rattle.jr_frames.specs.declared.frames.Frames.TheInside.{Inside as Fields}
use Rattle.jr_frames.specs.Table.{IsNext}
use Rattle.jr_frames.specs.Places.{given_of, unused, place_at, is_idle}
use Rattle.linked_lists.specs.Lists.{first_listed, times}
use Rattle.jr_frames.specs.Arrangements.{table, IsTable}
use Rattle.linked_lists.proofs.Times.{times_here, times_there, not_first, all_below, few_numbers}
use Rattle.jr_frames.proofs.Showing.{not_idle}
use Rattle.jr_frames.proofs.Places.{is_free_place}

within : (p n : ℕ) (b : Bool) → p < n → (nat_le (p + 1) n && b) ≡ b
within p n true l = grind (arith, nat_tests)
within p n false l = grind (arith, nat_tests)

-- what a place is that is there, and free
pub record IsIdle (last : ℕ) (places : List Place) (p : ℕ) : Type 0 where
  pub place : p < length places
  pub empty : (place_at places p).object ≡ 0
  pub low : given_of (place_at places p) ≤ last

idle_parts : (p n object given last : ℕ) → (nat_le (p + 1) n && (not (not (object == 0)) && nat_le given last)) ≡ true
    → (p < n) × (object ≡ 0) × (given ≤ last)
idle_parts p n object given last e = (grind (arith, nat_tests), grind (arith, nat_tests), grind (arith, nat_tests))

pub idle_true : (last : ℕ) (places : List Place) (p : ℕ) → is_idle last places p ≡ true → IsIdle last places p
idle_true last places p e =
    let i = idle_parts p (length places) (place_at places p).object (given_of (place_at places p)) last e in
    record { place = i.0; empty = i.1; low = i.2 }

free_true : (object given last : ℕ) → object ≡ 0 → given ≤ last → (not (not (object == 0)) && nat_le given last) ≡ true
free_true object given last e l = grind (arith, nat_tests)

bit_true : (b : Bool) (n : ℕ) → 1 + n ≡ (if b then 1 else 0) → b ≡ true
bit_true true n e = refl
bit_true false n e = absurd (omega arith)

-- a list of numbers below n is as long as the times that they are in it, added up
pub sum_times : (n : ℕ) (xs : List ℕ) → ((p : ℕ) → n ≤ p → times p xs ≡ 0) → sum_below n (λ p. times p xs) ≡ length xs
sum_times n [] below = sum_none n
sum_times n (x ∷ xs) below =
    omega (
      arith,
      times_here x xs,
      sum_at n (λ p. times p xs) (λ p. times p (x ∷ xs)) x
          (all_below n n (x ∷ xs) (omega arith) below).0 (λ p ne. times_there p x xs ne),
      sum_times n xs (λ p g. (not_first p x xs (below p g)).1),
    )

at_most_one : (b : Bool) → (if b then 1 else 0) ≤ 1
at_most_one true = omega arith
at_most_one false = omega arith

module _ (a : Fields) (is : IsTable a) where
  free_below : (q : ℕ) → length a.places.items ≤ q → times q a.order.free ≡ 0
  free_below q g = is.idle q ∙ ap (λ b. if b then 1 else 0) (not_idle a.last a.places.items q g)

  -- as many places are free as are counted
  pub free_counted : free_places a.last (table a).frames ≡ a.free
  free_counted =
      let n : length (table a).frames.given ≡ length a.places.items = length-map a.places.items given_of in
      ap (λ k. sum_below k (λ p. if is_free a.last (table a).frames p then 1 else 0)) n
      ∙ sum_same (length a.places.items) (λ p. times p a.order.free)
      (λ p. if is_free a.last (table a).frames p then 1 else 0)
      (λ p l. ap (λ b. if b then 1 else 0)
      (is_free_place a is a.last p ∙ sym (within p (length a.places.items) _ l)) ∙ sym (is.idle p))
      ∙ sum_times (length a.places.items) a.order.free free_below
      ∙ sym is.count

  pub free_few : a.free ≤ length a.places.items
  free_few = omega (
    arith,
    is.count,
    few_numbers (length a.places.items) a.order.free free_below
        (λ q. omega (arith, is.idle q, at_most_one (is_idle a.last a.places.items q))),
  )

  pub first_idle : (p : ℕ) (xs : List ℕ) → a.order.free ≡ p ∷ xs → IsIdle a.last a.places.items p
  first_idle p xs e = idle_true a.last a.places.items p
      (bit_true _ (times p xs) (sym (times_here p xs) ∙ (sym (ap (times p) e) ∙ is.idle p)))

  -- where none is the first of the free places, none is free, and the first is
  pub none_free : (xs : List ℕ) → a.order.free ≡ xs → None ≡ first_listed xs → a.free ≡ 0
  none_free [] e f = is.count ∙ ap length e
  none_free (x ∷ xs) e f = absurd cc

  pub next_idle : (p : ℕ) (xs : List ℕ) → a.order.free ≡ xs → Some p ≡ first_listed xs → IsIdle a.last a.places.items p
  next_idle p [] e f = absurd cc
  next_idle p (x ∷ xs) e f = first_idle p xs (e ∙ ap (λ y. y ∷ xs) (let same : x ≡ p = cc in same))

  -- the place is given its next handle
  pub free_next : (p : ℕ) → IsIdle a.last a.places.items p
      → IsNext (table a)
      (record { kind = Local; serial = given_of (place_at a.places.items p); index = p; owner = a.thread })
  free_next p idle = record {
    place = let l = idle.place in rw length-map l;
    free = is_free_place a is a.last p ∙ free_true _ _ a.last idle.empty idle.low;
    handle = ap next_handle (sym (get_or-map given_of a.places.items p unused));
  }
    where
      next_handle : ℕ → Handle
      next_handle n = record { kind = Local; serial = n; index = p; owner = a.thread }
