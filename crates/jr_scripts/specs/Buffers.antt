-- Copied elements as a script sees them, and the numbers in them.
use Rattle.std.specs.Prelude.{◌≡◌, ◌==◌, ℕ, ℤ, List, map, length, nat_lt, Result, Ok}
use Rattle.std.specs.Prelude.{Err, if◌then◌else◌, slice_index_or, slice_set, refl}
use mathlib.Core.Path.{ap}
use Rattle.std.specs.Int.{w8, w16, w32, w64}
use Rattle.std.specs.Coded.{Coded, code_by, coded_ℕ, coded_list, coded×}
use Rattle.jr_word.specs.declared.fault.Fault.{Fault}
use Rattle.jr_word.specs.declared.fault.Fault.TheVariants as fault
use Rattle.jr_word.specs.declared.kind.Kind.{Kind}
use Rattle.jr_word.specs.declared.kind.Kind.TheVariants.{Plain, Boolean, Byte, Char, Short, Int, Long, Objects, Text}
use Rattle.jr_word.specs.Kind.{kind_code}
use Rattle.jr_word.specs.Elem.{bool_word, signed_word}
use Rattle.jr_scripts.specs.declared.buffer.CopiedElements.{CopiedElements}
use Rattle.jr_scripts.specs.declared.buffer.CopiedElements.TheVariants as elements
use Rattle.jr_scripts.specs.Numbers.{number_of_word, word_of_number}

-- COPIED ELEMENTS: the kind of their array, and the word of each
pub record Copied : Type 0 where
  pub kind : Kind
  pub words : List ℕ

-- elements of a type as copied elements, by the word of each
abbrev pub copied_as : {V : Type 0} → Kind → (V → ℕ) → List V → Copied
copied_as k word_of values = record { kind = k; words = map word_of values }

-- copied elements of this kind, with these words
abbrev pub copy_of : Kind → List ℕ → Copied
copy_of k words = record { kind = k; words = words }

-- copied elements of any type
abbrev pub copied_in : CopiedElements → Copied
copied_in (elements.Boolean values) = copied_as Boolean bool_word values
copied_in (elements.Byte values) = copied_as Byte (signed_word w8) values
copied_in (elements.Char values) = copied_as Char (λ unit. unit) values
copied_in (elements.Short values) = copied_as Short (signed_word w16) values
copied_in (elements.Int values) = copied_as Int (signed_word w32) values
copied_in (elements.Long values) = copied_as Long (signed_word w64) values

-- the kind with a number
abbrev pub kind_at : ℕ → Kind
kind_at n = if n == 1 then Plain
    else (if n == 2 then Boolean else (if n == 3 then Byte else (if n == 4 then Char else (if n == 5 then Short
    else (if n == 6 then Int else (if n == 7 then Long else (if n == 8 then Objects else Text)))))))

-- a kind is told by its number
pub kind_back : (k : Kind) → kind_at (kind_code k) ≡ k
kind_back Plain = refl
kind_back Boolean = refl
kind_back Byte = refl
kind_back Char = refl
kind_back Short = refl
kind_back Int = refl
kind_back Long = refl
kind_back Objects = refl
kind_back Text = refl

-- copied elements as numbers
abbrev pub coded_copied : Coded Copied
coded_copied = code_by (ℕ × List ℕ) (coded× coded_ℕ (coded_list coded_ℕ)) (λ b. (kind_code b.kind, b.words))
    (λ p. record { kind = kind_at p.0; words = p.1 }) (λ b. ap (λ (k : Kind). copy_of k b.words) (kind_back b.kind))

-- the number at an index, E7 where there is none
abbrev pub number_in : Copied → ℕ → Result ℤ Fault
number_in b i =
    if nat_lt i (length b.words) then Ok (number_of_word b.kind (slice_index_or b.words i 0)) else Err fault.Range

-- copied elements with a word at an index, E7 where there is none
abbrev pub with_word : Copied → ℕ → ℕ → Result Copied Fault
with_word b i word =
    if nat_lt i (length b.words) then Ok (copy_of b.kind (slice_set b.words i word)) else Err fault.Range

-- copied elements once a number's word is known, or it was refused
abbrev pub with_word_if : Copied → ℕ → Result ℕ Fault → Result Copied Fault
with_word_if b i (Ok word) = with_word b i word
with_word_if b i (Err e) = Err e

-- copied elements with a number at an index:
-- E18 where no element of the kind is that number, and then E7 where there is no such index
abbrev pub with_number : Copied → ℕ → ℤ → Result Copied Fault
with_number b i number = with_word_if b i (word_of_number b.kind number)
