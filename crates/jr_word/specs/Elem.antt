-- Elements as words.
use Rattle.std.specs.Prelude.{◌≡◌, ℕ, ℤ, pos, ◌^◌, ◌<◌, ◌%◌, Bool, true, false, Option}
use Rattle.std.specs.Prelude.{Some, None, IsSome, nat_lt, unsigned_abs, ◌==◌, if◌then◌else◌}
use Rattle.std.specs.Int.{Width, cast_signed, int_rem_euclid}
use Rattle.jr_word.specs.declared.kind.Kind.{Kind}
use Rattle.jr_word.specs.Kind.{word_limit}
use mir.Val.{bits}

-- THE LAWS of a type of elements: which values it has, the word of each, the value
-- that each word is, and what a word is taken for where it is known to be one
pub record ElemLaws {V : Type 0} (kind : Kind) (Fits : V → Type 0) (word_of : V → ℕ) (value_at : ℕ → Option V)
    (element_of : ℕ → V) : Type 0 where
  -- what was written is read
  pub reads_back : (value : V) → Fits value → value_at (word_of value) ≡ Some value
  -- a word is read as the one value that is written so
  pub reads_own : (word : ℕ) (value : V) → value_at word ≡ Some value → Fits value × (word ≡ word_of value)
  -- what is written is a word of the kind
  pub writes_below : (value : V) → Fits value → word_of value < word_limit kind
  -- zero is a word of the kind
  pub zero_below : 0 < word_limit kind
  -- each word of the kind is read
  pub reads_below : (word : ℕ) → word < word_limit kind → IsSome (value_at word)
  -- and is the word of what it is taken for
  pub takes_below : (word : ℕ) → word < word_limit kind → word_of (element_of word) ≡ word
  -- a value's word is taken for that value
  pub takes_back : (value : V) → Fits value → element_of (word_of value) ≡ value

-- the word of a boolean
abbrev pub bool_word : Bool → ℕ
bool_word false = 0
bool_word true = 1

-- the boolean that a word is
abbrev pub bool_at : ℕ → Option Bool
bool_at word = if word == 0 then Some false else (if word == 1 then Some true else None)

-- the word of a signed integer: the integer modulo 2 to the power of its bits
abbrev pub signed_word : Width → ℤ → ℕ
signed_word width value = unsigned_abs (int_rem_euclid value (pos (2 ^ bits width)))

-- the signed integer that a word is
abbrev pub signed_at : Width → ℕ → Option ℤ
signed_at width word = if nat_lt word (2 ^ bits width) then Some (cast_signed width word) else None

-- the unsigned integer that a word is
abbrev pub unsigned_at : Width → ℕ → Option ℕ
unsigned_at width word = if nat_lt word (2 ^ bits width) then Some word else None

-- what a word is taken for: the boolean that is its lowest bit
abbrev pub bool_of : ℕ → Bool
bool_of word = word % 2 == 1

-- the unsigned integer of its low bits
abbrev pub unsigned_of : Width → ℕ → ℕ
unsigned_of width word = word % 2 ^ bits width

-- the signed integer of its low bits
abbrev pub signed_of : Width → ℕ → ℤ
signed_of width word = cast_signed width (word % 2 ^ bits width)
