-- How links show lists, as rings that are each closed by an end.
use Rattle.std.specs.Prelude.{◌≡◌, ◌≤◌, ◌+◌, ◌-◌, ◌^◌, ◌==◌, ℕ, zero, suc, cond, nat_lt, Option, Some, None}
use Rattle.std.specs.Prelude.{List, [], ◌∷◌, ◌++◌, length, slice_index_or}
use Rattle.std.specs.List.{concat}
use Rattle.linked_lists.specs.Lists.{Lists, times}
use Rattle.linked_lists.specs.declared.links.Link.{Link}
use Rattle.linked_lists.specs.declared.linked_lists.LinkedLists.TheInside.{Inside as Fields}

-- a link beyond the last
abbrev pub no_link : Link
no_link = record { previous = 0; next = 0 }

-- which one is after another
abbrev pub next_at : List Link → ℕ → ℕ
next_at links q = (slice_index_or links q no_link).next

-- which one is before another
abbrev pub previous_at : List Link → ℕ → ℕ
previous_at links q = (slice_index_or links q no_link).previous

-- a number, if it is below a bound
abbrev pub number_below : ℕ → ℕ → Option ℕ
number_below n q = cond (nat_lt q n) (Some q) None

-- the first was put right before the second, and nothing else has changed
pub record IsJoined (old : List Link) (first second : ℕ) (new : List Link) : Type 0 where
  pub size : length new ≡ length old
  pub next : (q : ℕ) → next_at new q ≡ cond (q == first) second (next_at old q)
  pub previous : (q : ℕ) → previous_at new q ≡ cond (q == second) first (previous_at old q)

-- from x, the numbers of the list follow one another
abbrev pub Follow : List Link → ℕ → List ℕ → Type 0
Follow links x [] = Unit {0}
Follow links x (y ∷ ys) = (next_at links x ≡ y) × (previous_at links y ≡ x) × Follow links y ys

-- the rings of the ends from a number on are these
abbrev pub AreRings : List Link → ℕ → List (List ℕ) → Type 0
AreRings links end [] = Unit {0}
AreRings links end (xs ∷ rest) = Follow links end (xs ++ end ∷ []) × AreRings links (suc end) rest

-- what follows until the end, in so many steps at the most
abbrev pub until : List Link → ℕ → ℕ → ℕ → List ℕ
until links end zero q = []
until links end (suc steps) q = cond (q == end) [] (q ∷ until links end steps (next_at links q))

-- the rings of so many ends from a number on, each of so many numbers at the most
abbrev pub rings_from : List Link → ℕ → ℕ → ℕ → List (List ℕ)
rings_from links most end zero = []
rings_from links most end (suc n) = until links end most (next_at links end) ∷ rings_from links most (suc end) n

-- the lists that the links show
abbrev pub lists_of : {most : ℕ} → Fields most → Lists
lists_of a = record {
  numbers = a.numbers;
  free = until a.links.items a.numbers a.numbers (next_at a.links.items a.numbers);
  lists = rings_from a.links.items a.numbers (suc a.numbers) (length a.links.items - a.numbers - 1);
}

-- the links show these lists, in at most so many links
pub record AreShown (most : ℕ) (links : List Link) (l : Lists) : Type 0 where
  pub size : length links ≡ l.numbers + 1 + length l.lists
  pub fits : length links ≤ most
  pub small : most ≤ 2 ^ 16
  pub rings : AreRings links l.numbers (l.free ∷ l.lists)
  -- no number is in the lists twice, and none from a bound on
  pub once : (q : ℕ) → times q (concat (l.free ∷ l.lists)) ≤ 1
  pub below : (q : ℕ) → l.numbers ≤ q → times q (concat (l.free ∷ l.lists)) ≡ 0

-- the links show lists
abbrev pub AreLists : {most : ℕ} → Fields most → Type 0
AreLists {most} a = AreShown most a.links.items (lists_of a)
