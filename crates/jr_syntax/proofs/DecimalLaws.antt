-- Numbers and their digits.
use Rattle.std.proofs.Common.{◌≡◌, ℕ, zero, suc, ◌^◌, ◌<◌, true, List, length}
use Rattle.std.proofs.Common.{get_or, refl, arith, inl, inr, eqb, rules}
use Rattle.std.specs.Prelude.{◌||◌, not, nat_le}
use Rattle.std.specs.Fmt.{decimal}
use Rattle.std.proofs.lemmas.Bool.{and_parts, and_from, leb-true, le-leb, eqb-true}
use Rattle.std.proofs.lemmas.Bool.{eqb-false, ne_eqb, not-true, or_cases}
use Rattle.std.proofs.lemmas.Str.Parse.{IsNumeralModel, IsDigitsTest, numerals_by_fold}
use Rattle.std.proofs.lemmas.Fmt.{decimal-digits_value, digits_decimal, digits_value-decimal}
use Rattle.std.proofs.lemmas.Fmt.{decimal_digit, decimal_nonempty, first_decimal}
use Rattle.jr_syntax.specs.Number.{all_digits, is_number, number_from, number_of_digits}

-- a number up to the greatest has few bits
pub few_bits : (most : ℕ) → most < 2 ^ 64 → (n : ℕ) → nat_le n most ≡ true → n < 2 ^ 64
few_bits most h n g = let le = leb-true n most g in omega (arith, le, h)

digits_test : IsDigitsTest (λ ds. all_digits ds ≡ true)
digits_test = search rules

own : IsNumeralModel (λ ds. all_digits ds ≡ true) (number_from 0)
own = numerals_by_fold _ digits_test number_from (search rules)

-- a number that begins with 0 is 0
alone : (w : List ℕ) → is_number w ≡ true → get_or w 0 0 ≡ 48 → length w ≡ 1
alone w f e =
    elim (or_cases _ _ (and_parts _ _ f).1) [ inl n ↦ absurd (eqb-false _ _ (not-true _ n) e) | inr l ↦ eqb-true _ _ l ]

-- a number that was read is spelled as it was
pub decimal_number : (w : List ℕ) → is_number w ≡ true → number_of_digits w < 2 ^ 64 → decimal (number_of_digits w) ≡ w
decimal_number w f lt =
    let p = and_parts _ _ (and_parts _ _ f).0 in
    decimal-digits_value own w p.1 (leb-true _ _ p.0) (alone w f) lt

-- a number that is spelled is read again
pub number_decimal : (n : ℕ) → n < 2 ^ 64 → number_of_digits (decimal n) ≡ n
number_decimal n h = digits_value-decimal own n h

pub decimal_digits : (n : ℕ) → n < 2 ^ 64 → all_digits (decimal n) ≡ true
decimal_digits n h = digits_decimal own n h

no_zero : (n : ℕ) → n < 2 ^ 64 → (not (eqb (get_or (decimal n) 0 0) 48) || eqb (length (decimal n)) 1) ≡ true
no_zero zero h = rw (decimal_digit 0 (omega arith)) refl
no_zero (suc n) h =
    let lt = first_decimal (suc n) (omega arith) h in
    rw (ne_eqb (get_or (decimal (suc n)) 0 0) 48 (λ (z : get_or (decimal (suc n)) 0 0 ≡ 48). omega (arith, lt, z))) refl

pub decimal_form : (n : ℕ) → n < 2 ^ 64 → is_number (decimal n) ≡ true
decimal_form n h =
    and_from _ _ (and_from _ _ (le-leb 1 (length (decimal n)) (omega (arith, decimal_nonempty n h)))
    (decimal_digits n h)) (no_zero n h)
