-- How each type of elements meets the laws: the impls cite these, and there is nothing to believe.
use Rattle.std.specs.Prelude.{◌≡◌, ℕ, zero, suc, ℤ, pos, negsuc, ◌*◌, ◌%◌, ◌^◌, ◌<◌}
use Rattle.std.specs.Prelude.{◌≤◌, ⊤, Bool, true, false, Some, None, IsSome, FitsSigned}
use Rattle.std.specs.Int.{Width, w8, w16, w32, w64, w128, cast_signed, cast_unsigned}
use Rattle.std.proofs.Common.{refl, inl, inr, ap, sym, subst, ◌∙◌, arith}
use Rattle.std.proofs.Math.Nat.{mod-eq_of_lt}
use Rattle.std.proofs.lemmas.Int.{to_z-of_z, of_z-to_z}
use Rattle.std.proofs.lemmas.Bool.{cases_lt}
use Rattle.std.proofs.Math.Facts.{sfits_to_z}
use Rattle.std.proofs.lemmas.Bool.Decides.{nat_tests}
use Rattle.jr_word.specs.declared.kind.Kind.TheVariants.{Boolean, Byte, Char, Short, Int, Long}
use Rattle.jr_word.specs.Elem.{ElemLaws, bool_word, bool_at, bool_of, signed_word}
use Rattle.jr_word.specs.Elem.{signed_at, signed_of, unsigned_at, unsigned_of}
use mir.Val.{bits, hbits}

-- ---- booleans

bool_back : (value : Bool) → bool_at (bool_word value) ≡ Some value
bool_back true = refl
bool_back false = refl

bool_own : (word : ℕ) (value : Bool) → bool_at word ≡ Some value → word ≡ bool_word value
bool_own word true e = grind (arith, nat_tests)
bool_own word false e = grind (arith, nat_tests)

bool_below : (value : Bool) → bool_word value < 2
bool_below true = omega arith
bool_below false = omega arith

bool_all : (word : ℕ) → word < 2 → IsSome (bool_at word)
bool_all word h = grind (arith, nat_tests)

bool_taken : (word : ℕ) → word < 2 → bool_word (bool_of word) ≡ word
bool_taken zero h = refl
bool_taken (suc zero) h = refl
bool_taken (suc (suc n)) h = absurd (omega arith)

bool_takes : (value : Bool) → bool_of (bool_word value) ≡ value
bool_takes true = refl
bool_takes false = refl

pub bool_laws : ElemLaws Boolean (λ _. ⊤) bool_word bool_at bool_of
bool_laws = record {
  reads_back = λ value fits. bool_back value;
  reads_own = λ word value e. (tt, bool_own word value e);
  writes_below = λ value fits. bool_below value;
  zero_below = let e : 0 < 2 = omega arith in e;
  reads_below = bool_all;
  takes_below = bool_taken;
  takes_back = λ value fits. bool_takes value;
}

-- ---- unsigned integers

unsigned_back : (w : Width) (value : ℕ) → value < 2 ^ bits w → unsigned_at w value ≡ Some value
unsigned_back w value fits = grind (arith, nat_tests)

unsigned_own : (w : Width) (word value : ℕ) → unsigned_at w word ≡ Some value → (value < 2 ^ bits w) × (word ≡ value)
unsigned_own w word value e = grind (arith, nat_tests)

unsigned_all : (w : Width) (word : ℕ) → word < 2 ^ bits w → IsSome (unsigned_at w word)
unsigned_all w word h = grind (arith, nat_tests)

unsigned_taken : (w : Width) (word : ℕ) → word < 2 ^ bits w → unsigned_of w word ≡ word
unsigned_taken w word h = mod-eq_of_lt h

pub u16_laws : ElemLaws Char (λ value. value < 2 ^ 16) (λ value. value) (unsigned_at w16) (unsigned_of w16)
u16_laws = record {
  reads_back = unsigned_back w16;
  reads_own = unsigned_own w16;
  writes_below = λ value fits. fits;
  zero_below = let e : 0 < 65536 = omega arith in e;
  reads_below = unsigned_all w16;
  takes_below = unsigned_taken w16;
  takes_back = unsigned_taken w16;
}

-- ---- signed integers

-- a width has twice the words that its type has integers from 0 up
twice : (w : Width) → 2 ^ bits w ≡ 2 * 2 ^ hbits w
twice w8 = refl
twice w16 = refl
twice w32 = refl
twice w64 = refl
twice w128 = refl

-- where an integer fits, its word is its bits
signed_word-is : (w : Width) (value : ℤ) → FitsSigned w value → signed_word w value ≡ cast_unsigned w value
signed_word-is w (pos n) fits =
    let double = twice w in
    let small : n % 2 ^ bits w ≡ n = mod-eq_of_lt (omega (arith, fits)) in
    small
signed_word-is w (negsuc n) fits =
    let double = twice w in
    let small : n % 2 ^ bits w ≡ n = mod-eq_of_lt (omega (arith, fits)) in
    omega arith

signed_below : (w : Width) (value : ℤ) → FitsSigned w value → signed_word w value < 2 ^ bits w
signed_below w (pos n) fits =
    let double = twice w in
    let same = signed_word-is w (pos n) fits in
    omega (arith, fits)
signed_below w (negsuc n) fits =
    let double = twice w in
    let same = signed_word-is w (negsuc n) fits in
    omega (arith, fits)

at_word : (w : Width) (word : ℕ) → word < 2 ^ bits w → signed_at w word ≡ Some (cast_signed w word)
at_word w word below = grind (arith, nat_tests)

at_no_word : (w : Width) (word : ℕ) → 2 ^ bits w ≤ word → signed_at w word ≡ None
at_no_word w word above = grind (arith, nat_tests)

signed_back : (w : Width) (value : ℤ) → FitsSigned w value → signed_at w (signed_word w value) ≡ Some value
signed_back w value fits = at_word w (signed_word w value) (signed_below w value fits)
    ∙ ap Some (ap (cast_signed w) (signed_word-is w value fits) ∙ to_z-of_z w value fits)

signed_fits : (w : Width) (word : ℕ) → word < 2 ^ bits w → FitsSigned w (cast_signed w word)
signed_fits w word below = sfits_to_z (record { fits = below })

signed_own : (w : Width) (word : ℕ) (value : ℤ) → signed_at w word ≡ Some value
    → FitsSigned w value × (word ≡ signed_word w value)
signed_own w word value e =
    elim (cases_lt word
    (2 ^ bits w)) [ inl below ↦ read below | inr above ↦ absurd (let nothing = at_no_word w word above in cc) ]
  where
    read : word < 2 ^ bits w → FitsSigned w value × (word ≡ signed_word w value)
    read below =
        let is : cast_signed w word ≡ value = (let found = at_word w word below in cc) in
        let fits : FitsSigned w value = subst (FitsSigned w) is (signed_fits w word below) in
        (fits, sym (of_z-to_z w word below) ∙ ap (cast_unsigned w) is ∙ sym (signed_word-is w value fits))

signed_all : (w : Width) (word : ℕ) → word < 2 ^ bits w → IsSome (signed_at w word)
signed_all w word below = grind (arith, nat_tests)

-- a word of the width is all of its low bits
signed_of-is : (w : Width) (word : ℕ) → word < 2 ^ bits w → signed_of w word ≡ cast_signed w word
signed_of-is w word below = ap (cast_signed w) (mod-eq_of_lt below)

signed_taken : (w : Width) (word : ℕ) → word < 2 ^ bits w → signed_word w (signed_of w word) ≡ word
signed_taken w word below = ap (signed_word w) (signed_of-is w word below)
    ∙ (signed_word-is w (cast_signed w word) (signed_fits w word below) ∙ of_z-to_z w word below)

signed_takes : (w : Width) (value : ℤ) → FitsSigned w value → signed_of w (signed_word w value) ≡ value
signed_takes w value fits = signed_of-is w (signed_word w value) (signed_below w value fits)
    ∙ (ap (cast_signed w) (signed_word-is w value fits) ∙ to_z-of_z w value fits)

pub i8_laws : ElemLaws Byte (FitsSigned w8) (signed_word w8) (signed_at w8) (signed_of w8)
i8_laws = record {
  reads_back = signed_back w8;
  reads_own = signed_own w8;
  writes_below = signed_below w8;
  zero_below = let e : 0 < 256 = omega arith in e;
  reads_below = signed_all w8;
  takes_below = signed_taken w8;
  takes_back = signed_takes w8;
}

pub i16_laws : ElemLaws Short (FitsSigned w16) (signed_word w16) (signed_at w16) (signed_of w16)
i16_laws = record {
  reads_back = signed_back w16;
  reads_own = signed_own w16;
  writes_below = signed_below w16;
  zero_below = let e : 0 < 65536 = omega arith in e;
  reads_below = signed_all w16;
  takes_below = signed_taken w16;
  takes_back = signed_takes w16;
}

pub i32_laws : ElemLaws Int (FitsSigned w32) (signed_word w32) (signed_at w32) (signed_of w32)
i32_laws = record {
  reads_back = signed_back w32;
  reads_own = signed_own w32;
  writes_below = signed_below w32;
  zero_below = let e : 0 < 4294967296 = omega arith in e;
  reads_below = signed_all w32;
  takes_below = signed_taken w32;
  takes_back = signed_takes w32;
}

pub i64_laws : ElemLaws Long (FitsSigned w64) (signed_word w64) (signed_at w64) (signed_of w64)
i64_laws = record {
  reads_back = signed_back w64;
  reads_own = signed_own w64;
  writes_below = signed_below w64;
  zero_below = let e : 0 < 18446744073709551616 = omega arith in e;
  reads_below = signed_all w64;
  takes_below = signed_taken w64;
  takes_back = signed_takes w64;
}
