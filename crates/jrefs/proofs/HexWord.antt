-- What hexadecimal digits stand for.
use Rattle.std.proofs.Common.{◌≡◌, ℕ, ◌<◌, ◌≤◌, ◌^◌, ◌==◌, true, false, List, []}
use Rattle.std.proofs.Common.{◌∷◌, length, Some, refl, sym, ap, ◌∙◌, subst, arith}
use Rattle.std.specs.List.{list_all}
use Rattle.std.specs.Char.{is_ascii_hexdigit, digit_value}
use Rattle.std.specs.Prelude.{Result, Ok, Err}
use Rattle.std.specs.Result.{result_ok}
use Rattle.std.specs.Str.Parse.{AllDigits, IsNumeral, ParsesUnsigned, digits_value, without_leading_plus}
use Rattle.std.proofs.Math.Nat.{pow-le-pow_right}
use Rattle.std.proofs.lemmas.Bool.{and_parts}
use Rattle.std.proofs.lemmas.Bool.Decides.{nat_tests}
use Rattle.std.proofs.lemmas.Int.Digits.{digits_value-lt}

digit_below : (b : ℕ) → is_ascii_hexdigit b ≡ true → digit_value b < 16
digit_below b is = grind (arith, nat_tests)

no_plus_digit : (b : ℕ) → is_ascii_hexdigit b ≡ true → (b == 43) ≡ false
no_plus_digit b is = grind (arith, nat_tests)

all_digits : (text : List ℕ) → list_all is_ascii_hexdigit text ≡ true → AllDigits 16 text
all_digits [] are = tt
all_digits (b ∷ bs) are = let parts = and_parts _ _ are in (digit_below b parts.0, all_digits bs parts.1)

-- none of them is a plus
no_plus : (text : List ℕ) → list_all is_ascii_hexdigit text ≡ true → without_leading_plus text ≡ text
no_plus [] are = refl
no_plus (b ∷ bs) are = let parts = and_parts _ _ are in rw (no_plus_digit b parts.0) refl

-- 16 digits fit a word
within_word : (text : List ℕ) → length text ≤ 16 → AllDigits 16 text → digits_value 16 text < 2 ^ 64
within_word text few are =
    let below : digits_value 16 text < 16 ^ length text = digits_value-lt 16 text are in
    let most : 16 ^ length text ≤ 16 ^ 16 = pow-le-pow_right {n = 16} (omega arith) few in
    omega arith

-- 1 to 16 of them are read as a word
pub read_as_word : {E : Type 0} (text : List ℕ) (read : Result ℕ E) → 0 < length text → length text ≤ 16
    → list_all is_ascii_hexdigit text ≡ true → ParsesUnsigned 64 16 text read
    → result_ok read ≡ Some (digits_value 16 text)
read_as_word text (Ok n) some few are parses = ap Some (parses.1 ∙ ap (digits_value 16) (no_plus text are))
read_as_word text (Err e) some few are fails =
    let digits = all_digits text are in
    absurd (fails (subst (λ (t : List ℕ). IsNumeral 16 t × (digits_value 16 t < 2 ^ 64)) (sym (no_plus text are))
    ((some, digits), within_word text few digits)))
