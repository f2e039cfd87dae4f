-- The lists that links show.
use Rattle.std.proofs.Common.{◌≡◌, ◌+◌, ◌-◌, ◌<◌, ◌≤◌, ⊎_elim, ℕ, zero, suc, List, []}
use Rattle.std.proofs.Common.{◌∷◌, ◌++◌, length, refl, sym, ap, subst, ◌∙◌, arith}
use Rattle.std.proofs.lemmas.Bool.{cases_lt}
use Rattle.std.specs.List.{concat}
use Rattle.linked_lists.specs.Lists.{Lists, all_numbers, list_at, times}
use Rattle.linked_lists.specs.declared.links.Link.{Link}
use Rattle.linked_lists.specs.declared.linked_lists.LinkedLists.TheInside.{Inside as Fields}
use Rattle.linked_lists.specs.Links.{next_at, previous_at, AreRings, AreShown, AreLists, Follow, lists_of}
use Rattle.linked_lists.specs.Links.{rings_from, until}
use Rattle.linked_lists.proofs.Times.{times_append, all_below, all_other, none_left, none_right, few_numbers}
use Rattle.linked_lists.proofs.Following.{IsBetween, between, until_end, follow_pairs, all_end}

module _ (links : List Link) (most : ℕ) where
  -- a number in one of the rings stands between two others
  between_rings : (bound p end : ℕ) (rs : List (List ℕ)) → most ≤ end → end + length rs ≤ bound
      → ((q : ℕ) → most ≤ q → times q (concat rs) ≡ 0) → 1 ≤ times p (concat rs) → AreRings links end rs
      → IsBetween links bound p
  between_rings bound p end [] low fits below some r = absurd (omega arith)
  between_rings bound p end (xs ∷ rest) low fits below some r =
      ⊎_elim
      (λ (l : times p xs < 1).
      between_rings bound p (suc end) rest (omega arith) (omega arith)
      (λ q g. none_right q xs (concat rest) (below q g)) (omega (arith, times_append p xs (concat rest))) r.1)
      (λ (g : 1 ≤ times p xs).
      between links bound end (omega arith) p end xs (omega arith)
      (all_below most bound xs (omega arith) (λ q h. none_left q xs (concat rest) (below q h))) g r.0)
      (cases_lt (times p xs) 1)

  -- the rings are what follows until the ends
  pub rings_are : (end : ℕ) (rs : List (List ℕ)) → most ≤ end → ((q : ℕ) → most ≤ q → times q (concat rs) ≡ 0)
      → ((q : ℕ) → times q (concat rs) ≤ 1) → AreRings links end rs → rings_from links most end (length rs) ≡ rs
  rings_are end [] low below one r = refl
  rings_are end (xs ∷ rest) low below one r =
      ap (λ l. l ∷ rings_from links most (suc end) (length rest))
      (until_end links end most end xs (all_other end xs (none_left end xs (concat rest) (below end low)))
      (few_numbers most xs (λ q g. none_left q xs (concat rest) (below q g))
      (λ q. omega (arith, times_append q xs (concat rest), one q))) r.0)
      ∙ ap (λ l. xs ∷ l) (rings_are (suc end) rest (omega arith)
      (λ q g. none_right q xs (concat rest) (below q g))
      (λ q. omega (arith, times_append q xs (concat rest), one q)) r.1)

  -- links that are the same below a bound have the same rings there
  pub rings_below : (new : List Link) (bound end : ℕ) (rs : List (List ℕ))
      → ((q : ℕ) → q < bound → (next_at new q ≡ next_at links q) × (previous_at new q ≡ previous_at links q))
      → most ≤ end → end + length rs ≤ bound → ((q : ℕ) → most ≤ q → times q (concat rs) ≡ 0) → AreRings links end rs
      → AreRings new end rs
  rings_below new bound end [] same low fits below r = tt
  rings_below new bound end (xs ∷ rest) same low fits below r = (
    follow_pairs links new (λ q. q < bound) (λ x y a b e f. ((same x a).0 ∙ e, (same y b).1 ∙ f)) end (xs ++ end ∷ [])
        (omega arith)
        (all_end (λ q. q < bound) xs end
        (all_below most bound xs (omega arith) (λ q h. none_left q xs (concat rest) (below q h))) (omega arith)) r.0,
    rings_below new bound (suc end) rest same (omega arith) (omega arith)
        (λ q g. none_right q xs (concat rest) (below q g)) r.1,
  )

-- the ring of an end
pub ring_at : (links : List Link) (first k : ℕ) (rs : List (List ℕ)) → k < length rs → AreRings links first rs
    → Follow links (first + k) (list_at rs k ++ (first + k) ∷ [])
ring_at links first k [] l r = absurd (omega arith)
ring_at links first zero (x ∷ xs) l r = subst (λ n. Follow links n (x ++ n ∷ [])) (omega arith) r.0
ring_at links first (suc k) (x ∷ xs) l r = subst (λ n. Follow links n (list_at xs k ++ n ∷ []))
    (let same : suc first + k ≡ first + suc k = omega arith in same) (ring_at links (suc first) k xs (omega arith) r.1)

-- a number is in all lists at least as often as in one of them
pub times_at : (q k : ℕ) (rs : List (List ℕ)) → times q (list_at rs k) ≤ times q (concat rs)
times_at q zero [] = omega arith
times_at q zero (x ∷ xs) = omega (arith, times_append q x (concat xs))
times_at q (suc k) [] = omega arith
times_at q (suc k) (x ∷ xs) = omega (arith, times_append q x (concat xs), times_at q k xs)

module _ {most : ℕ} {links : List Link} {l : Lists} (shown : AreShown most links l) where
  -- a number that stands in a list stands between two others
  pub beside : (p : ℕ) → 1 ≤ times p (all_numbers l) → IsBetween links (length links) p
  beside p some = let size = shown.size in
      between_rings links l.numbers (length links) p l.numbers (l.free ∷ l.lists) (omega arith)
      (omega arith) shown.below
      some shown.rings

  pub number_low : (p : ℕ) → 1 ≤ times p (all_numbers l) → p < l.numbers
  number_low p some = ⊎_elim (λ (low : p < l.numbers). low)
      (λ (g : l.numbers ≤ p). absurd (omega (arith, shown.below p g))) (cases_lt p l.numbers)

-- the fields show these lists
module _ {most : ℕ} (a : Fields most) {l : Lists} where
  pub shown_as : AreLists a → lists_of a ≡ l → AreShown most a.links.items l
  shown_as shown same = subst (AreShown most a.links.items) same shown

  module _ (shown : AreShown most a.links.items l) (numbers : a.numbers ≡ l.numbers) where
    head_of : List (List ℕ) → List ℕ
    head_of [] = []
    head_of (xs ∷ rest) = xs

    tail_of : List (List ℕ) → List (List ℕ)
    tail_of [] = []
    tail_of (xs ∷ rest) = rest

    all_are : rings_from a.links.items l.numbers l.numbers (length (l.free ∷ l.lists)) ≡ l.free ∷ l.lists
    all_are = rings_are a.links.items l.numbers l.numbers (l.free ∷ l.lists) (omega arith) shown.below shown.once
        shown.rings

    shows : ℕ → ℕ → Lists
    shows n count = record {
      numbers = n;
      free = until a.links.items n n (next_at a.links.items n);
      lists = rings_from a.links.items n (suc n) count;
    }

    made : List ℕ → List (List ℕ) → Lists
    made free lists = record { numbers = l.numbers; free = free; lists = lists }

    -- they are those that are seen
    pub seen_as : lists_of a ≡ l
    unfolding shows made head_of tail_of
    seen_as =
        let size = shown.size in
        let count : length a.links.items - a.numbers - 1 ≡ length l.lists = omega arith in
        ap (shows a.numbers) count
        ∙ (ap (λ n. shows n (length l.lists)) numbers
        ∙ ap (λ rs. made (head_of rs) (tail_of rs)) all_are)

    pub are_lists : AreLists a
    are_lists = subst (AreShown most a.links.items) (sym seen_as) shown

-- what is shown after other links, of as many, are the rings of other lists
pub still_shown : {most : ℕ} {old : List Link} {l : Lists} → AreShown most old l → (new : List Link) (m : Lists)
    → length new ≡ length old
    → m.numbers ≡ l.numbers → length m.lists ≡ length l.lists → AreRings new l.numbers (m.free ∷ m.lists)
    → ((q : ℕ) → times q (all_numbers m) ≤ 1) → ((q : ℕ) → l.numbers ≤ q → times q (all_numbers m) ≡ 0)
    → AreShown most new m
still_shown shown new m size numbers lists rings once below = record {
  size = let was = shown.size in omega arith;
  fits = let was = shown.fits in omega arith;
  small = shown.small;
  rings = subst (λ n. AreRings new n (m.free ∷ m.lists)) (sym numbers) rings;
  once = once;
  below = λ q g. below q (omega arith);
}
