-- Elements of arrays as the numbers of a script.
use Rattle.std.specs.Prelude.{ℕ, ℤ, pos, ◌+◌, ◌-ℤ◌, ◌&&◌, Bool, true, false, nat_le, List, [], ◌∷◌, Result}
use Rattle.std.specs.Prelude.{Ok, Err, unsigned_abs, if◌then◌else◌}
use Rattle.std.specs.Int.{w8, w16, w32, w64, int_rem_euclid}
use Rattle.std.specs.Ordering.{int_eq}
use Rattle.jr_word.specs.declared.fault.Fault.{Fault}
use Rattle.jr_word.specs.declared.fault.Fault.TheVariants as fault
use Rattle.jr_word.specs.declared.kind.Kind.{Kind}
use Rattle.jr_word.specs.declared.kind.Kind.TheVariants.{Plain, Boolean, Byte, Char, Short, Int, Long, Objects, Text}
use Rattle.jr_word.specs.Kind.{word_limit}
use Rattle.jr_word.specs.Elem.{bool_word, signed_word}
use Rattle.jr_scripts.specs.declared.number.NumberKind.{NumberKind}
use Rattle.jr_scripts.specs.declared.number.NumberKind.TheVariants as number
use Rattle.jr_scripts.specs.declared.number.Element.{Element}
use Rattle.jr_scripts.specs.declared.number.Element.TheVariants as element

-- an object has numbers as its elements: E5 for a plain object and a string, E6 for an array of objects
abbrev pub has_numbers : Kind → Result (Unit {0}) Fault
has_numbers Plain = Err fault.NotArray
has_numbers Text = Err fault.NotArray
has_numbers Objects = Err fault.WrongElement
has_numbers _ = Ok tt

-- elements of a kind have a sign: the upper half of its words are numbers below 0
abbrev pub has_sign : Kind → Bool
has_sign Byte = true
has_sign Short = true
has_sign Int = true
has_sign Long = true
has_sign _ = false

-- THE NUMBER OF A WORD: bytes, shorts, ints and longs have a sign, a boolean is 0 or 1, and a char is 0 to 65,535
abbrev pub number_of_word : Kind → ℕ → ℤ
number_of_word k w = if has_sign k && nat_le (word_limit k) (w + w) then pos w -ℤ pos (word_limit k) else pos w

-- the word that a number would have: the number modulo the count of words that the kind has
abbrev pub word_for : Kind → ℤ → ℕ
word_for k v = unsigned_abs (int_rem_euclid v (pos (word_limit k)))

-- some element of a kind is this number: it is that of its word
abbrev pub is_number_of : Kind → ℤ → Bool
is_number_of k v = int_eq (number_of_word k (word_for k v)) v

-- THE WORD OF A NUMBER, and E18 where no element of the kind is that number
abbrev pub word_of_number : Kind → ℤ → Result ℕ Fault
word_of_number k v = if is_number_of k v then Ok (word_for k v) else Err fault.Value

-- the number of the first of these words, 0 where there is none
abbrev pub first_number : Kind → List ℕ → ℤ
first_number k [] = pos 0
first_number k (w ∷ ws) = number_of_word k w

-- the kind of an array of numbers
abbrev pub kind_numbered : NumberKind → Kind
kind_numbered number.Boolean = Boolean
kind_numbered number.Byte = Byte
kind_numbered number.Char = Char
kind_numbered number.Short = Short
kind_numbered number.Int = Int
kind_numbered number.Long = Long

-- the kind of the arrays of which this is an element
abbrev pub kind_of_element : Element → Kind
kind_of_element (element.Boolean v) = Boolean
kind_of_element (element.Byte v) = Byte
kind_of_element (element.Char v) = Char
kind_of_element (element.Short v) = Short
kind_of_element (element.Int v) = Int
kind_of_element (element.Long v) = Long

-- its word
abbrev pub word_of_element : Element → ℕ
word_of_element (element.Boolean v) = bool_word v
word_of_element (element.Byte v) = signed_word w8 v
word_of_element (element.Char v) = v
word_of_element (element.Short v) = signed_word w16 v
word_of_element (element.Int v) = signed_word w32 v
word_of_element (element.Long v) = signed_word w64 v
