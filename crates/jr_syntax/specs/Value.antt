-- Values: what an element is set to.
use Rattle.std.specs.Prelude.{ℕ, ℤ, pos, negsuc, neg_ℤ, Bool, false, ◌&&◌, ◌||◌, not}
use Rattle.std.specs.Prelude.{List, [], ◌∷◌, ◌==◌, codes, int_le, if◌then◌else◌}
use Rattle.std.specs.Str.{bytes_eq}
use Rattle.std.specs.Fmt.{signed_decimal}
use Rattle.jr_syntax.specs.Number.{is_number, number_of_digits}
use Rattle.jr_syntax.specs.Kind.{WordKind}

-- a minus, and a NUMBER other than 0 behind it
abbrev pub is_negative_word : List ℕ → Bool
is_negative_word [] = false
is_negative_word (c ∷ digits) = (c == 45) && is_number digits && not (bytes_eq digits (codes "0"))

-- a NUMBER, or a minus and a NUMBER other than 0
abbrev pub is_value_word : List ℕ → Bool
is_value_word word = is_number word || is_negative_word word

-- the integer that such a word stands for
abbrev pub value_of : List ℕ → ℤ
value_of [] = pos 0
value_of (c ∷ digits) = if c == 45 then neg_ℤ (pos (number_of_digits digits)) else pos (number_of_digits (c ∷ digits))

-- whether an integer has 64 bits with its sign
abbrev pub is_long : ℤ → Bool
is_long n = int_le (negsuc 9223372036854775807) n && int_le n (pos 9223372036854775807)

-- a VALUE
abbrev pub value : WordKind ℤ
value = record {
  has_form = is_value_word;
  in_range = λ w. is_long (value_of w);
  value = value_of;
  spell = signed_decimal;
  is_good = is_long;
}
