-- Names.
use Rattle.std.specs.Prelude.{◌≡◌, ℕ, Bool, true, ◌&&◌, ◌||◌, not, List, length, nat_le, slice_index, codes, take}
use Rattle.std.specs.List.{list_all}
use Rattle.std.specs.Str.{bytes_eq}

-- a letter a to z
abbrev pub is_letter : ℕ → Bool
is_letter c = nat_le 97 c && nat_le c 122

-- a digit 0 to 9
abbrev pub is_digit : ℕ → Bool
is_digit c = nat_le 48 c && nat_le c 57

-- a letter or a digit
abbrev pub is_name_byte : ℕ → Bool
is_name_byte c = is_letter c || is_digit c

-- a letter, and at most 15 letters and digits behind it; not `null`
abbrev pub is_name : List ℕ → Bool
is_name word =
    nat_le 1 (length word) && nat_le (length word) 16 && is_letter (slice_index word 0) && list_all is_name_byte word
    && not (bytes_eq word (codes "null"))

-- a name or `null`
abbrev pub is_reference : List ℕ → Bool
is_reference word = bytes_eq word (codes "null") || is_name word

-- bytes of which the first hold a name, and the others nothing
pub record IsKept (text : List ℕ) (len : ℕ) : Type 0 where
  pub form : is_name (take len text) ≡ true
  pub counted : length (take len text) ≡ len
