-- Counts: numbers within bounds, as counts of local references, lengths, indices and tries.
use Rattle.std.specs.Prelude.{ℕ, Bool, nat_le}
use Rattle.std.specs.Fmt.{decimal}
use Rattle.jr_word.specs.Config.{is_between}
use Rattle.jr_syntax.specs.Number.{is_number, number_of_digits}
use Rattle.jr_syntax.specs.Kind.{WordKind}

-- a NUMBER that passes a test
abbrev pub number_if : (ℕ → Bool) → WordKind ℕ
number_if test = record {
  has_form = is_number;
  in_range = λ w. test (number_of_digits w);
  value = number_of_digits;
  spell = decimal;
  is_good = test;
}

-- a NUMBER that is at most the greatest
abbrev pub number_at_most : ℕ → WordKind ℕ
number_at_most greatest = number_if (λ n. nat_le n greatest)

-- the greatest count
abbrev pub most_count : ℕ
most_count = 16777215

-- a count of local references, the length of an array, or an index
abbrev pub count : WordKind ℕ
count = number_at_most most_count

-- whether a command may try so often
abbrev pub is_tries : ℕ → Bool
is_tries n = is_between 1 most_count n

-- how often a command may try: a count other than 0
abbrev pub tries : WordKind ℕ
tries = number_if is_tries
