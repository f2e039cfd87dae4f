-- Whether a pop would leave a free place.
use Rattle.std.proofs.Common.{◌≡◌, ◌==◌, ◌&&◌, ◌||◌, ◌+◌, ◌<◌, ◌≤◌, ⊎_elim, ℕ, suc, Bool}
use Rattle.std.proofs.Common.{true, false, not, if◌then◌else◌, nat_le, List, [], ◌∷◌}
use Rattle.std.proofs.Common.{length, slice_index, refl, sym, ap, subst, ◌∙◌, arith}
use Rattle.std.specs.List.{list_any, concat}
use Rattle.std.proofs.lemmas.List.{length-map}
use Rattle.std.proofs.lemmas.Bool.{cases_lt}
use Rattle.std.proofs.lemmas.Bool.Decides.{nat_tests}
use Rattle.std.proofs.Math.ListN.{get_or-map}
use Rattle.jr_model.specs.Maps.{count_below}
use Rattle.jr_model.specs.Frames.{is_free, free_places, joined, popped}
use Rattle.jr_model.proofs.Counts.{count_none, count_all_false}
use Rattle.jr_model.proofs.Updates.{eq_true}
use Rattle.jr_frames.specs.declared.frames.Frames.TheInside.{Inside as Fields}
use Rattle.jr_frames.specs.Places.{given_of, unused, place_at, is_taken, is_idle, ref_at}
use Rattle.linked_lists.specs.Lists.{times, list_at, last_list, lists_before}
use Rattle.jr_frames.specs.Arrangements.{table, IsTable}
use Rattle.jr_frames.proofs.FreePlaces.{first_idle}
use Rattle.jr_frames.proofs.Showing.{map_before, joined_map}
use Rattle.linked_lists.proofs.LastList.{last_at, times_parts}
use Rattle.jr_frames.proofs.Named.{taken_index}
use Rattle.jr_frames.proofs.Places.{any_ref, listed}
use Rattle.jr_frames.specs.Giving.{IsFrame, gives_again}
use Rattle.linked_lists.proofs.Times.{times_here}
use Rattle.linked_lists.proofs.Shown.{times_at}

-- one of the numbers passes a test, or none of them does
any_true : (t : ℕ → Bool) (xs : List ℕ) → list_any t xs ≡ true → (p : ℕ) × (1 ≤ times p xs) × (t p ≡ true)
any_true t [] e = absurd cc
any_true t (x ∷ xs) e = go (t x) refl (any_true t xs)
  where
    go : (b : Bool) → t x ≡ b → (list_any t xs ≡ true → (p : ℕ) × (1 ≤ times p xs) × (t p ≡ true))
        → (p : ℕ) × (1 ≤ times p (x ∷ xs)) × (t p ≡ true)
    go true is rest = let here = times_here x xs in (x, omega arith, is)
    go false is rest = let y = rest (subst (λ b. (b || list_any t xs) ≡ true) is e) in let some = y.1 in
        (y.0, omega arith, y.2)

any_false : (t : ℕ → Bool) (p : ℕ) (xs : List ℕ) → list_any t xs ≡ false → 1 ≤ times p xs → t p ≡ false
any_false t p [] e some = absurd (omega arith)
any_false t p (x ∷ xs) e some = go (t x) refl (x == p) refl (any_false t p xs)
  where
    go : (b : Bool) → t x ≡ b → (d : Bool) → (x == p) ≡ d → (list_any t xs ≡ false → 1 ≤ times p xs → t p ≡ false)
        → t p ≡ false
    go true is d same rest =
        absurd (let f : (true || list_any t xs) ≡ false = subst (λ b. (b || list_any t xs) ≡ false) is e in cc)
    go false is true same rest = ap t (sym (eq_true x p same)) ∙ is
    go false is false same rest = rest (subst (λ b. (b || list_any t xs) ≡ false) is e)
        (let n : 1 ≤ 0 + times p xs = subst (λ b. 1 ≤ (if b then 1 else 0) + times p xs) same some in omega arith)

low_is : (given last : ℕ) → nat_le given last ≡ true → given ≤ last
low_is given last e = grind (arith, nat_tests)

high_is : (given last : ℕ) → nat_le given last ≡ false → last < given
high_is given last e = grind (arith, nat_tests)

some_counted : (n : ℕ) (p : ℕ → Bool) (k : ℕ) → k < n → p k ≡ true → 1 ≤ count_below n p
some_counted n p k l here =
    ⊎_elim (λ (few : count_below n p < 1). absurd (let none = count_none n p (omega arith) k l in cc))
    (λ (some : 1 ≤ count_below n p). some) (cases_lt (count_below n p) 1)

once_bit : (b : Bool) (n : ℕ) → n ≡ (if b then 1 else 0) → 1 ≤ n → b ≡ true
once_bit true n e l = refl
once_bit false n e l = absurd (omega arith)

at_most_one : (b : Bool) (n : ℕ) → n ≡ (if b then 1 else 0) → n ≤ 1
at_most_one true n e = omega arith
at_most_one false n e = omega arith

never_bit : (b : Bool) (n : ℕ) → n ≡ (if b then 1 else 0) → b ≡ false → n ≡ 0
never_bit true n e f = absurd cc
never_bit false n e f = e

low_true : (held : Bool) (given last : ℕ) → held ≡ false → given ≤ last → (not held && nat_le given last) ≡ true
low_true true given last e l = absurd cc
low_true false given last e l = grind (arith, nat_tests)

high_false : (held : Bool) (given last : ℕ) → last < given → (not held && nat_le given last) ≡ false
high_false true given last l = refl
high_false false given last l = grind (arith, nat_tests)

held_false : (held : Bool) (given last : ℕ) → held ≡ true → (not held && nat_le given last) ≡ false
held_false true given last e = refl
held_false false given last e = absurd cc

must_hold : (p n given last : ℕ) (taken : Bool) → p < n → given ≤ last
    → (nat_le (p + 1) n && (not taken && nat_le given last)) ≡ false → taken ≡ true
must_hold p n given last true l g e = refl
must_hold p n given last false l g e = absurd (let yes_first : nat_le (p + 1) n ≡ true = grind (arith, nat_tests) in
    let yes_then : nat_le given last ≡ true = grind (arith, nat_tests) in cc)

module _ (a : Fields) (is : IsTable a) where
  -- what is free once the newest frame is gone
  free_then : (p : ℕ)
      → is_free a.last (popped (table a).frames) p ≡ (not (list_any (λ q. q == p) (concat (lists_before a.order.lists)))
      && nat_le (given_of (place_at a.places.items p)) a.last)
  free_then p =
      ap (λ rs. not (list_any (λ r. r.handle.index == p) rs) && nat_le (slice_index (table a).frames.given p)
      a.last) (ap joined (map_before (ref_at a.thread a.places.items) a.order.lists)
      ∙ joined_map (ref_at a.thread a.places.items) (lists_before a.order.lists))
      ∙ ap (λ b. not b && nat_le (slice_index (table a).frames.given p) a.last) (any_ref a.thread
      a.places.items p (concat (lists_before a.order.lists)))
      ∙ ap (λ n. not (list_any (λ q. q == p) (concat (lists_before a.order.lists))) && nat_le n a.last)
      (get_or-map given_of
      a.places.items p unused)

  frees : (p : ℕ) → p < length a.places.items → times p (concat (lists_before a.order.lists)) ≡ 0
      → given_of (place_at a.places.items p) ≤ a.last → 1 ≤ free_places a.last (popped (table a).frames)
  frees p l none low =
      let n : length (table a).frames.given ≡ length a.places.items = length-map a.places.items given_of in
      some_counted (length (table a).frames.given) (is_free a.last (popped (table a).frames)) p
      (omega arith)
      (free_then p ∙ low_true (list_any (λ q. q == p) (concat (lists_before a.order.lists)))
      (given_of (place_at a.places.items p)) a.last (listed p (concat (lists_before a.order.lists)) false none) low)

  -- a place that is free already
  pub room_already : 1 ≤ a.free → 1 ≤ free_places a.last (popped (table a).frames)
  room_already some = go a.order.free refl
    where
      go : (xs : List ℕ) → a.order.free ≡ xs → 1 ≤ free_places a.last (popped (table a).frames)
      go [] e = absurd (omega (arith, is.count, ap length e))
      go (p ∷ xs) e =
          let idle = first_idle a is p xs e in
          let none = never_bit (is_taken a.places.items p) (times p (concat a.order.lists)) (is.once p)
          (ap (λ n. not (n == 0)) idle.empty) in
          frees p idle.place (omega (arith, times_parts p a.order.lists)) idle.low

  module _ (k : ℕ) (at_end : suc k ≡ length a.order.lists) where
    last_is : list_at a.order.lists k ≡ last_list a.order.lists
    last_is = last_at k a.order.lists at_end

    pub newest_frame : IsFrame a.order (length a.places.items) k
    newest_frame = record {
      there = omega arith;
      low = λ p some. taken_index a.places.items p (once_bit (is_taken a.places.items p)
          (times p (concat a.order.lists)) (is.once p) (omega (arith, times_at p k a.order.lists)));
      once = λ p. omega (
        arith,
        times_at p k a.order.lists,
        at_most_one (is_taken a.places.items p) (times p (concat a.order.lists)) (is.once p),
      );
    }

    -- the newest frame has a place that gives a handle again
    pub room_then : gives_again a.last a.places.items (list_at a.order.lists k) ≡ true
        → 1 ≤ free_places a.last (popped (table a).frames)
    room_then e =
        let found = any_true (λ p. nat_le (given_of (place_at a.places.items p)) a.last) (last_list a.order.lists)
        (ap (gives_again a.last a.places.items) (sym last_is) ∙ e) in
        let p = found.0 in
        let some = found.1 in
        let parts = times_parts p a.order.lists in
        let once = at_most_one (is_taken a.places.items p) (times p (concat a.order.lists)) (is.once p) in
        let taken = once_bit (is_taken a.places.items p) (times p (concat a.order.lists)) (is.once p) (omega arith) in
        frees p (taken_index a.places.items p taken) (omega arith) (low_is _ a.last found.2)

    -- no place is free, and the newest frame has none that gives a handle again
    pub room_never : gives_again a.last a.places.items (list_at a.order.lists k) ≡ false
        → a.free ≡ 0 → free_places a.last (popped (table a).frames) ≡ 0
    room_never e none = count_all_false (length (table a).frames.given)
        (is_free a.last (popped (table a).frames)) (λ p l. free_then p ∙ each p l)
      where
        empty_bit : (b : Bool) → ◌≡◌ {A = ℕ} 0 (if b then 1 else 0) → b ≡ false
        empty_bit true f = absurd (omega arith)
        empty_bit false f = refl

        no_idle : (p : ℕ) (xs : List ℕ) → a.order.free ≡ xs → is_idle a.last a.places.items p ≡ false
        no_idle p [] f = empty_bit (is_idle a.last a.places.items p) (sym (ap (times p) f) ∙ is.idle p)
        no_idle p (x ∷ xs) f =
            absurd (let c = is.count in let long : length a.order.free ≡ suc (length xs) = ap length f in omega arith)

        before : (p : ℕ) → p < length (table a).frames.given → given_of (place_at a.places.items p) ≤ a.last
            → list_any (λ q. q == p) (concat (lists_before a.order.lists)) ≡ true
        before p l low =
            let n : length (table a).frames.given ≡ length a.places.items =
            length-map a.places.items given_of in
            let taken = must_hold p (length a.places.items) (given_of (place_at a.places.items p)) a.last
            (is_taken a.places.items p) (omega arith) low (no_idle p a.order.free refl) in
            let one : times p (concat a.order.lists) ≡ 1 = is.once p ∙ ap (λ b. if b then 1 else 0) taken in
            let parts = times_parts p a.order.lists in
            let not_last : times p (last_list a.order.lists) < 1 =
            ⊎_elim (λ (few : times p (last_list a.order.lists) < 1). few)
            (λ (some : 1 ≤ times p (last_list a.order.lists)).
            absurd (let high = high_is _ a.last (any_false (λ q. nat_le (given_of (place_at a.places.items q)) a.last) p
            (last_list a.order.lists) (ap (gives_again a.last a.places.items) (sym last_is) ∙ e) some) in omega arith))
            (cases_lt (times p (last_list a.order.lists)) 1) in
            let here : times p (concat (lists_before a.order.lists)) ≡ 1 = omega arith in
            listed p (concat (lists_before a.order.lists)) true here

        each : (p : ℕ) → p < length (table a).frames.given
            → (not (list_any (λ q. q == p) (concat (lists_before a.order.lists)))
            && nat_le (given_of (place_at a.places.items p)) a.last) ≡ false
        each p l = ⊎_elim (λ (high : a.last < given_of (place_at a.places.items p)).
            high_false (list_any (λ q. q == p) (concat (lists_before a.order.lists))) _ a.last high)
            (λ (low : given_of (place_at a.places.items p) ≤ a.last).
            held_false (list_any (λ q. q == p) (concat (lists_before a.order.lists))) _ a.last (before p l low))
            (cases_lt a.last (given_of (place_at a.places.items p)))
