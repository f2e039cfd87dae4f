-- The places of a table, counted one after the other.
use Rattle.std.proofs.Common.{◌≡◌, ◌==◌, ◌+◌, ◌<◌, ◌≤◌, ◌^◌, ℕ, Bool, true, false, not, nat_le, nat_lt}
use Rattle.std.proofs.Common.{zero, suc, if◌then◌else◌, List, length, slice_index, refl, sym, ap, ◌∙◌, arith}
use mir.Val.{bool_byte as from_bool}
use Rattle.std.proofs.lemmas.List.{length-map, get_or_past}
use Rattle.std.proofs.Math.ListN.{get_or-map}
use Rattle.std.specs.List.{concat}
use Rattle.linked_lists.specs.Lists.{times}
use Rattle.jr_model.specs.Maps.{count_below, sum_below}
use Rattle.jr_model.specs.Frames.{all_refs}
use Rattle.jr_model.proofs.Lengths.{sum_same}
use Rattle.jr_frames.specs.declared.place.Place.{Place}
use Rattle.jr_frames.specs.declared.frames.Frames.TheInside.{Inside as Fields}
use Rattle.jr_frames.specs.Places.{gave_any, given_of, is_taken, ref_at, unused}
use Rattle.jr_frames.specs.Arrangements.{table, IsTable}
use Rattle.jr_frames.proofs.FreePlaces.{sum_times}
use Rattle.jr_frames.proofs.Showing.{joined_map}

-- none are counted of no numbers
pub count_nothing : (p : ℕ → Bool) → count_below 0 p ≡ 0
unfolding sum_below
count_nothing p = refl

-- one more number counts where it passes
pub count_more : (n : ℕ) (p : ℕ → Bool) → count_below (suc n) p ≡ count_below n p + (if p n then 1 else 0)
unfolding sum_below
count_more n p = refl

-- no more are counted than there are
pub count_few : (n : ℕ) (p : ℕ → Bool) → count_below n p ≤ n
unfolding sum_below
count_few zero p = omega arith
count_few (suc n) p = go (p n) (count_few n p)
  where
    go : (b : Bool) → count_below n p ≤ n → count_below n p + (if b then 1 else 0) ≤ suc n
    go true l = omega arith
    go false l = omega arith

-- a number that is counted one place on
more : (n m k : ℕ) (b : Bool) → n ≡ m → k ≡ from_bool b → n + k ≡ m + (if b then 1 else 0)
more n m k true e f = omega arith
more n m k false e f = omega arith

next : (i : ℕ) (p : ℕ → Bool) → count_below (i + 1) p ≡ count_below i p + (if p i then 1 else 0)
next i p = let same : i + 1 ≡ suc i = omega arith in ap (λ k. count_below k p) same ∙ count_more i p

module _ (seen places : List Place) (same : seen ≡ places) (i n k : ℕ) where
  pub one_more_taken : n ≡ count_below i (is_taken places) → k ≡ from_bool (is_taken seen i)
      → n + k ≡ count_below (i + 1) (is_taken places)
  one_more_taken e f = more n _ k (is_taken places i) e (f ∙ ap (λ ps. from_bool (is_taken ps i)) same)
      ∙ sym (next i (is_taken places))

  pub one_more_given : n ≡ count_below i (gave_any places) → k ≡ from_bool (gave_any seen i)
      → n + k ≡ count_below (i + 1) (gave_any places)
  one_more_given e f = more n _ k (gave_any places i) e (f ∙ ap (λ ps. from_bool (gave_any ps i)) same)
      ∙ sym (next i (gave_any places))

pub is_some : (n k : ℕ) → k ≡ n → from_bool (nat_lt 0 k) ≡ from_bool (nat_le 1 n)
is_some n k e = ap (λ j. from_bool (nat_lt 0 j)) e

pub fits_few : (n k i : ℕ) (p : ℕ → Bool) (b : Bool) → n ≡ count_below i p → k ≡ from_bool b → i < 4096
    → n + k < 2 ^ 16
fits_few n k i p true e f l = let few = count_few i p in omega arith
fits_few n k i p false e f l = let few = count_few i p in omega arith

-- a place beyond the last holds nothing
not_taken : (places : List Place) (p : ℕ) → length places ≤ p → is_taken places p ≡ false
not_taken places p l = ap (λ (x : Place). not (x.object == 0)) (get_or_past places p unused l)

module _ (a : Fields) (is : IsTable a) where
  -- as many references stand as places hold one
  pub standing_counted : length (all_refs (table a).frames)
      ≡ count_below (length a.places.items) (is_taken a.places.items)
  standing_counted =
      let n = length a.places.items in
      ap length (joined_map (ref_at a.thread a.places.items) a.order.lists)
      ∙ length-map (concat a.order.lists) (ref_at a.thread a.places.items)
      ∙ sym (sum_times n (concat a.order.lists)
      (λ p g. is.once p ∙ ap (λ b. if b then 1 else 0) (not_taken a.places.items p g)))
      ∙ sum_same n (λ p. if is_taken a.places.items p then 1 else 0) (λ p. times p (concat a.order.lists))
      (λ p l. is.once p)

  -- and as many places have given a handle as the frames say
  pub given_counted : count_below (length (table a).frames.given) (λ p. nat_le 1 (slice_index (table a).frames.given p))
      ≡ count_below (length a.places.items) (gave_any a.places.items)
  given_counted =
      ap (λ k. count_below k (λ p. nat_le 1 (slice_index (table a).frames.given p)))
      (length-map a.places.items given_of)
      ∙ sum_same (length a.places.items) (λ p. if gave_any a.places.items p then 1 else 0)
      (λ p. if nat_le 1 (slice_index (table a).frames.given p) then 1 else 0)
      (λ p l. ap (λ k. if nat_le 1 k then 1 else 0) (get_or-map given_of a.places.items p unused))
