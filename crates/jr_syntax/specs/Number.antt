-- Numbers as digits.
use Rattle.std.specs.Prelude.{ℕ, ◌+◌, ◌*◌, ◌-◌, Bool, ◌&&◌, ◌||◌, not, List, [], ◌∷◌, length, ◌==◌, nat_le, slice_index}
use Rattle.std.specs.List.{list_all}
use Rattle.jr_syntax.specs.Name.{is_digit}

abbrev pub all_digits : List ℕ → Bool
all_digits word = list_all is_digit word

-- digits, the first of them 0 only where it is alone
abbrev pub is_number : List ℕ → Bool
is_number word = nat_le 1 (length word) && all_digits word && (not (slice_index word 0 == 48) || length word == 1)

-- the number that digits behind those of n stand for with them
abbrev pub number_from : ℕ → List ℕ → ℕ
number_from n [] = n
number_from n (c ∷ cs) = number_from (10 * n + (c - 48)) cs

-- the number that digits stand for
abbrev pub number_of_digits : List ℕ → ℕ
number_of_digits word = number_from 0 word
