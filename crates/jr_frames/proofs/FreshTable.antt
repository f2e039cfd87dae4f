-- A table that is new.
use Rattle.std.proofs.Common.{◌≡◌, ◌==◌, ◌&&◌, ◌+◌, ◌^◌, ◌<◌, ◌≤◌, ⊎_elim, ℕ, zero}
use Rattle.std.proofs.Common.{suc, true, false, not, if◌then◌else◌, nat_le, List, [], ◌∷◌}
use Rattle.std.proofs.Common.{map, replicate, length, refl, sym, ap, subst, ◌∙◌, lit≤, arith}
use Rattle.std.proofs.lemmas.List.{length-replicate}
use Rattle.std.proofs.lemmas.Bool.{cases_lt}
use Rattle.std.proofs.lemmas.Bool.Decides.{nat_tests}
use Rattle.arrayvec.specs.ArrayVec.{ArrayVec}
use Rattle.jr_word.specs.declared.config.TheConstants.Config.{MOST_LOCALS}
use Rattle.jr_model.specs.Frames.{fresh_frames}
use Rattle.jr_frames.specs.declared.place.Place.{Place}
use Rattle.jr_frames.specs.declared.frames.Frames.TheInside.{Inside as Fields}
use Rattle.jr_frames.specs.Table.{Table}
use Rattle.jr_frames.specs.Places.{given_of, unused, place_at, is_taken, is_idle}
use Rattle.linked_lists.specs.Lists.{times, Lists, count_up}
use Rattle.jr_frames.specs.Arrangements.{table, IsTable}
use Rattle.linked_lists.proofs.Fresh.{length_up, times_among, times_over}
use Rattle.jr_frames.proofs.Showing.{not_idle}

read_unused : (n q : ℕ) → place_at (replicate n unused) q ≡ unused
read_unused zero zero = refl
read_unused zero (suc q) = refl
read_unused (suc n) zero = refl
read_unused (suc n) (suc q) = read_unused n q

given_none : (n : ℕ) → map given_of (replicate n unused) ≡ replicate n 0
given_none zero = refl
given_none (suc n) = ap (λ l. 0 ∷ l) (given_none n)

module _ (thread last n : ℕ) (places : ArrayVec Place) (are : places.items ≡ replicate n unused)
    (order : Lists) (order_is : order ≡ record { numbers = n; free = count_up 0 n; lists = [] ∷ [] }) where
  -- the parts of a new table
  abbrev fresh_inside : Lists → Fields
  fresh_inside l = record { thread = thread; last = last; free = n; places = places; order = l }

  at_place : (q : ℕ) → place_at places.items q ≡ unused
  at_place q = ap (λ ps. place_at ps q) are ∙ read_unused n q

  size_is : length places.items ≡ n
  size_is = ap length are ∙ length-replicate n unused

  not_taken_now : (q : ℕ) → is_taken places.items q ≡ false
  not_taken_now q = ap (λ (x : Place). not (x.object == 0)) (at_place q)

  given_now : (q : ℕ) → given_of (place_at places.items q) ≡ 0
  given_now q = ap given_of (at_place q)

  idle_now : (q : ℕ) → q < n → is_idle last places.items q ≡ true
  idle_now q l =
      ap (λ k. nat_le (q + 1) k && (not (is_taken places.items q) && nat_le (given_of (place_at places.items q)) last))
      size_is
      ∙ (ap (λ b. nat_le (q + 1) n && (not b && nat_le (given_of (place_at places.items q)) last)) (not_taken_now q)
      ∙ (ap (λ k. nat_le (q + 1) n && (not false && nat_le k last)) (given_now q) ∙ here q n last l))
    where
      here : (p k m : ℕ) → p < k → (nat_le (p + 1) k && (not false && nat_le 0 m)) ≡ true
      here p k m l = grind (arith, nat_tests)

  idle_times : (q : ℕ) → times q (count_up 0 n) ≡ (if is_idle last places.items q then 1 else 0)
  idle_times q = ⊎_elim
      (λ (l : q < n). times_among q 0 n (omega arith) (omega arith) ∙ sym (ap (λ b. if b then 1 else 0) (idle_now q l)))
      (λ (g : n ≤ q). times_over q 0 n (omega arith)
      ∙ sym (ap (λ b. if b then 1 else 0) (not_idle last places.items q (let size = size_is in omega arith))))
      (cases_lt q n)

  pub fresh_shows : n ≤ MOST_LOCALS → last < 2 ^ 32 → IsTable (fresh_inside order)
  fresh_shows few fits =
      let size = size_is in
      subst (λ l. IsTable (fresh_inside l)) (sym order_is)
      (record {
        few = omega arith;
        last_fits = fits;
        given = λ q e. absurd (let none = not_taken_now q in cc);
        within = λ q. let none = given_now q in omega arith;
        numbers = sym size;
        some_frame = lit≤ tt;
        few_frames = lit≤ tt;
        once = λ q. sym (ap (λ b. if b then 1 else 0) (not_taken_now q));
        idle = idle_times;
        count = sym (length_up 0 n);
      })

  pub is_fresh : table (fresh_inside order) ≡ record { frames = fresh_frames n; thread = thread; last = last }
  is_fresh = ap (λ l. table (fresh_inside l)) order_is ∙ ap with_given (ap (map given_of) are ∙ given_none n)
    where
      with_given : List ℕ → Table
      with_given given = record { frames = record { frames = [] ∷ []; given = given }; thread = thread; last = last }
