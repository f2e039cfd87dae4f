-- The objects of a dump by kind, and the largest.
use Rattle.std.specs.Prelude.{◌≡◌, ◌≤◌, ◌<◌, ◌==◌, ◌+◌, ℕ, zero}
use Rattle.std.specs.Prelude.{suc, Bool, false, if◌then◌else◌, Option, Some, None, is_some}
use Rattle.std.specs.Prelude.{List, [], ◌∷◌, ◌++◌, length, slice_index_or, take, count_by, sum_by}
use Rattle.std.specs.List.Sorted.{IsPermutation}
use Rattle.jr_word.specs.declared.header.HeaderParts.{HeaderParts}
use Rattle.jr_word.specs.declared.kind.Kind.{Kind}
use Rattle.jr_word.specs.Kind.{kind_code}
use Rattle.jr_alive.specs.declared.dump.Dump.{Dump}
use Rattle.jr_alive.specs.declared.groups.Group.{Group}
use Rattle.jr_census.specs.Dumps.{noted_length}
use Rattle.jr_alive.specs.Graph.{noted_header}

-- an object of the kind has the header
abbrev pub is_noted_as : Kind → Option HeaderParts → Bool
is_noted_as kind None = false
is_noted_as kind (Some h) = kind_code h.kind == kind_code kind

-- how many words it has, if it is of the kind
abbrev pub words_if : Kind → Option HeaderParts → ℕ
words_if kind h = if is_noted_as kind h then noted_length h else 0

-- THE GROUP OF A KIND: how many objects of it the dump has, and how many words they have
abbrev pub group_of : Dump → Kind → Group
group_of d kind = record {
  kind = kind;
  count = count_by (is_noted_as kind) d.headers.items;
  words = sum_by (words_if kind) d.headers.items;
}

-- those with more come first
abbrev pub FallsBy : {A : Type 0} → (A → ℕ) → List A → Type 0
FallsBy {A} by xs = (i j : ℕ) (x : A) → i ≤ j → j < length xs → by (slice_index_or xs j x) ≤ by (slice_index_or xs i x)

-- the numbers of the objects that the dump has, up to n
unfoldable pub present_to : Dump → ℕ → List ℕ
present_to d zero = []
present_to d (suc n) = present_to d n ++ (if is_some (slice_index_or d.headers.items n None) then (n + 1) ∷ [] else [])

-- how many words an object has
abbrev pub noted_size : Dump → ℕ → ℕ
noted_size d o = noted_length (noted_header d 0 o)

-- THE LARGEST OBJECTS: the first so many of all objects of the dump, those with more words first
pub record AreLargest (d : Dump) (most : ℕ) (numbers : List ℕ) : Type 0 where
  pub all : List ℕ
  pub each : IsPermutation (present_to d (length d.headers.items)) all
  pub falls : FallsBy (noted_size d) all
  pub first : numbers ≡ take most all
