-- What a contract sees of linked lists.
use Rattle.std.specs.Prelude.{◌≡◌, ◌+◌, ◌==◌, ℕ, zero, suc, not, if◌then◌else◌, Option, Some, None}
use Rattle.std.specs.Prelude.{List, [], ◌∷◌, ◌++◌, map, slice_index_or}
use Rattle.std.specs.List.{concat, filter}

-- how many numbers may stand in lists, those that are free, and the other lists
pub record Lists : Type 0 where
  pub numbers : ℕ
  pub free : List ℕ
  pub lists : List (List ℕ)

-- how many times a number is in a list
abbrev pub times : ℕ → List ℕ → ℕ
times p [] = 0
times p (q ∷ qs) = (if q == p then 1 else 0) + times p qs

-- the numbers that stand in a list
abbrev pub all_numbers : Lists → List ℕ
all_numbers l = concat (l.free ∷ l.lists)

-- so many numbers from one on
abbrev pub count_up : ℕ → ℕ → List ℕ
count_up k zero = []
count_up k (suc m) = k ∷ count_up (suc k) m

-- the first number of a list
abbrev pub first_listed : List ℕ → Option ℕ
first_listed [] = None
first_listed (x ∷ xs) = Some x

-- the list of an index
abbrev pub list_at : List (List ℕ) → ℕ → List ℕ
list_at lists k = slice_index_or lists k []

-- whichever list has the number, this one stands after it there
abbrev pub IsAfter : Lists → ℕ → Option ℕ → Type 0
IsAfter l p next = (k : ℕ) (xs ys : List ℕ) → list_at (l.free ∷ l.lists) k ≡ xs ++ p ∷ ys → next ≡ first_listed ys

-- a list without a number
abbrev pub without_number : ℕ → List ℕ → List ℕ
without_number p xs = filter (λ q. not (q == p)) xs

-- a number at the end of the last list
abbrev pub with_end : List (List ℕ) → ℕ → List (List ℕ)
with_end [] p = []
with_end (x ∷ []) p = (x ++ p ∷ []) ∷ []
with_end (x ∷ y ∷ xs) p = x ∷ with_end (y ∷ xs) p

-- the last list
abbrev pub last_list : List (List ℕ) → List ℕ
last_list [] = []
last_list (x ∷ []) = x
last_list (x ∷ y ∷ xs) = last_list (y ∷ xs)

-- the lists before the last
abbrev pub lists_before : List (List ℕ) → List (List ℕ)
lists_before [] = []
lists_before (x ∷ []) = []
lists_before (x ∷ y ∷ xs) = x ∷ lists_before (y ∷ xs)

-- the same with other lists beside the free numbers
abbrev pub with_lists : Lists → List (List ℕ) → Lists
with_lists l lists = record l { lists = lists }

-- the same with other free numbers
abbrev pub with_free : Lists → List ℕ → Lists
with_free l free = record l { free = free }

-- all lists without a number
abbrev pub lists_without : Lists → ℕ → Lists
lists_without l p = record {
  numbers = l.numbers;
  free = without_number p l.free;
  lists =
      map (without_number p) l.lists;
}
