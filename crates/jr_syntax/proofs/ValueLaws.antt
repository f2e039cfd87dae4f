-- Values, as words and as integers.
use Rattle.std.proofs.Common.{◌≡◌, ℕ, zero, suc, ℤ, pos, negsuc, ◌^◌, ◌<◌, ◌≤◌, Bool, true, false, cond}
use Rattle.std.proofs.Common.{List, [], ◌∷◌, refl, sym, ap, subst, ◌∙◌, arith, eqb, leb, length, inl, inr}
use Rattle.std.specs.Prelude.{◌&&◌, ◌||◌, not, codes, neg_ℤ}
use Rattle.std.specs.Str.{bytes_eq}
use Rattle.std.specs.Fmt.{decimal, signed_decimal}
use Rattle.std.proofs.lemmas.Bool.{and_parts, and_from, leb-true, eqb-true, ne_eqb, not-true, or_cases, false≢true}
use Rattle.std.proofs.lemmas.Fmt.{decimal_digit, decimal_injective}
use Rattle.std.proofs.lemmas.Slice.Eq.{bytes_eq-Decides}
use Rattle.jr_syntax.specs.Name.{is_digit}
use Rattle.jr_syntax.specs.Number.{all_digits, is_number, number_of_digits}
use Rattle.jr_syntax.specs.Value.{is_negative_word, is_value_word, value_of, is_long}
use Rattle.jr_syntax.proofs.DecimalLaws.{decimal_number, number_decimal, decimal_form}
use Rattle.jr_syntax.proofs.VmLaws.{not_all}

-- ---- integers of 64 bits

pub long_above : (n : ℕ) → is_long (pos n) ≡ true → n < 2 ^ 63
long_above n g = let le = leb-true n 9223372036854775807 g in omega (arith, le)

pub long_below : (n : ℕ) → is_long (negsuc n) ≡ true → n < 2 ^ 63
long_below n g = let le = leb-true n 9223372036854775807 (and_parts _ _ g).0 in omega (arith, le)

-- ---- words that are read

-- where a word doesn't begin with a minus
plain_value : (c : ℕ) (ds : List ℕ) → eqb c 45 ≡ false → value_of (c ∷ ds) ≡ pos (number_of_digits (c ∷ ds))
plain_value c ds e = ap (λ b. cond b (neg_ℤ (pos (number_of_digits ds))) (pos (number_of_digits (c ∷ ds)))) e

plain_number : (c : ℕ) (ds : List ℕ) → eqb c 45 ≡ false → is_value_word (c ∷ ds) ≡ true → is_number (c ∷ ds) ≡ true
plain_number c ds e f =
    let none : is_negative_word (c ∷ ds) ≡ false = ap (λ b. (b && is_number ds) && not (bytes_eq ds (codes "0"))) e in
    elim (or_cases _ _ f) [ inl n ↦ n | inr m ↦ absurd (false≢true (sym none ∙ m)) ]

-- digits that are not 0 alone stand for another number
not_zero : (ds : List ℕ) → is_number ds ≡ true → bytes_eq ds (codes "0") ≡ false → number_of_digits ds ≡ 0 → ⊥
not_zero ds f other e =
    let back : decimal (number_of_digits ds) ≡ ds = decimal_number ds f (omega (arith, e)) in
    let same : ds ≡ codes "0" = sym back ∙ ap decimal e ∙ decimal_digit 0 (omega arith) in
    false≢true (sym other ∙ (bytes_eq-Decides ds (codes "0")).1 same)

minus_at : (ds : List ℕ) (n : ℕ) → number_of_digits ds ≡ n → is_number ds ≡ true → bytes_eq ds (codes "0") ≡ false
    → is_long (neg_ℤ (pos n)) ≡ true → signed_decimal (neg_ℤ (pos n)) ≡ 45 ∷ ds
minus_at ds zero e f other r = absurd (not_zero ds f other e)
minus_at ds (suc n) e f other r =
    let small = long_below n r in
    ap (λ (x : List ℕ). 45 ∷ x) (ap decimal (sym e) ∙ decimal_number ds f (omega (arith, small, e)))

-- what begins with a minus is no number
no_number : (ds : List ℕ) → is_number (45 ∷ ds) ≡ false
no_number ds = not_all (leb 1 (length (45 ∷ ds))) (all_digits (45 ∷ ds)) _ refl

minus_number : (ds : List ℕ) → is_value_word (45 ∷ ds) ≡ true
    → (is_number ds ≡ true) × (bytes_eq ds (codes "0") ≡ false)
minus_number ds f =
    let negative : is_negative_word (45 ∷ ds) ≡ true =
    ap (λ b. b || is_negative_word (45 ∷ ds)) (sym (no_number ds)) ∙ f in
    let p = and_parts (is_number ds) (not (bytes_eq ds (codes "0"))) negative in
    (p.0, not-true _ p.1)

minus_back : (ds : List ℕ) → is_value_word (45 ∷ ds) ≡ true → is_long (value_of (45 ∷ ds)) ≡ true
    → signed_decimal (value_of (45 ∷ ds)) ≡ 45 ∷ ds
minus_back ds f r = let p = minus_number ds f in minus_at ds (number_of_digits ds) refl p.0 p.1 r

value_back_at : (c : ℕ) (ds : List ℕ) (b : Bool) → eqb c 45 ≡ b → is_value_word (c ∷ ds) ≡ true
    → is_long (value_of (c ∷ ds)) ≡ true → signed_decimal (value_of (c ∷ ds)) ≡ c ∷ ds
value_back_at c ds true e f r =
    let P : ℕ → Type 0 = λ x. is_value_word (x ∷ ds) ≡ true → is_long (value_of (x ∷ ds)) ≡ true
    → signed_decimal (value_of (x ∷ ds)) ≡ x ∷ ds in
    subst P (sym (eqb-true c 45 e)) (minus_back ds) f r
value_back_at c ds false e f r =
    let is = plain_value c ds e in
    let small = long_above (number_of_digits (c ∷ ds)) (ap is_long (sym is) ∙ r) in
    ap signed_decimal is ∙ decimal_number (c ∷ ds) (plain_number c ds e f) (omega (arith, small))

-- what is read is spelled as it was
pub value_back : (w : List ℕ) → is_value_word w ≡ true → is_long (value_of w) ≡ true → signed_decimal (value_of w) ≡ w
value_back [] f r = absurd (false≢true f)
value_back (c ∷ ds) f r = value_back_at c ds (eqb c 45) refl f r

-- ---- integers that are spelled

-- a digit is no minus
no_minus : (c : ℕ) → is_digit c ≡ true → eqb c 45 ≡ false
no_minus c f =
    let low : 48 ≤ c = leb-true 48 c (and_parts _ _ f).0 in
    ne_eqb c 45 (λ (e : c ≡ 45). omega (arith, low, e))

-- a number is the value that it stands for
number_value : (w : List ℕ) → is_number w ≡ true → value_of w ≡ pos (number_of_digits w)
number_value [] f = absurd (false≢true f)
number_value (c ∷ ds) f =
    let digits : all_digits (c ∷ ds) ≡ true = (and_parts _ _ (and_parts _ _ f).0).1 in
    plain_value c ds (no_minus c (and_parts _ _ digits).0)

pub or_right : (a b : Bool) → b ≡ true → (a || b) ≡ true
or_right true b h = refl
or_right false b h = h

or_left : (a b : Bool) → a ≡ true → (a || b) ≡ true
or_left true b h = refl
or_left false b h = absurd (false≢true h)

not_so : (b : Bool) → (b ≡ true → ⊥) → b ≡ false
not_so true h = absurd (h refl)
not_so false h = refl

no_zero : (n : ℕ) → suc n < 2 ^ 64 → bytes_eq (decimal (suc n)) (codes "0") ≡ false
no_zero n h =
    let apart : bytes_eq (decimal (suc n)) (codes "0") ≡ true → ⊥ = λ e.
    let same : decimal (suc n) ≡ decimal 0 =
    (bytes_eq-Decides (decimal (suc n)) (codes "0")).0 e ∙ sym (decimal_digit 0 (omega arith)) in
    let is = decimal_injective (suc n) 0 h (omega arith) same in omega (arith, is) in
    not_so (bytes_eq (decimal (suc n)) (codes "0")) apart

-- an integer that is spelled has the form
pub value_form : (z : ℤ) → is_long z ≡ true → is_value_word (signed_decimal z) ≡ true
value_form (pos n) g = let small = long_above n g in or_left _ _ (decimal_form n (omega (arith, small)))
value_form (negsuc n) g =
    let small = long_below n g in
    let lt : suc n < 2 ^ 64 = omega (arith, small) in
    or_right _ _ (and_from (is_number (decimal (suc n))) (not (bytes_eq (decimal (suc n)) (codes "0")))
    (decimal_form (suc n) lt) (ap not (no_zero n lt)))

-- and is read again
pub value_again : (z : ℤ) → is_long z ≡ true → value_of (signed_decimal z) ≡ z
value_again (pos n) g =
    let small = long_above n g in
    let lt : n < 2 ^ 64 = omega (arith, small) in
    number_value (decimal n) (decimal_form n lt) ∙ ap pos (number_decimal n lt)
value_again (negsuc n) g =
    let small = long_below n g in
    ap (λ m. neg_ℤ (pos m)) (number_decimal (suc n) (omega (arith, small)))
