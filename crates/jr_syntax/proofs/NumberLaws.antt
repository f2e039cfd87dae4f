-- What digits stand for.
use Rattle.std.proofs.Common.{◌≡◌, ℕ, zero, suc, ◌+◌, ◌-◌, ◌*◌, ◌<◌, ◌≤◌, true}
use Rattle.std.proofs.Common.{List, [], ◌∷◌, length, drop, get_or, ap, ◌∙◌, arith}
use Rattle.std.proofs.lemmas.List.{at_drop_more}
use Rattle.std.proofs.lemmas.Bool.{and_parts, leb-true}
use Rattle.jr_syntax.specs.Number.{all_digits, number_from}

-- each of them is a digit
pub digit_at : (ds : List ℕ) (i : ℕ) → all_digits ds ≡ true → i < length ds
    → (48 ≤ get_or ds i 0) × (get_or ds i 0 ≤ 57)
digit_at [] i h lt = absurd (omega arith)
digit_at (c ∷ cs) zero h lt = let p = and_parts _ _ h in let q = and_parts _ _ p.0 in
    (leb-true _ _ q.0, leb-true _ _ q.1)
digit_at (c ∷ cs) (suc i) h lt = digit_at cs i (and_parts _ _ h).1 (omega arith)

-- no digit makes it less
pub number_from_ge : (n : ℕ) (ds : List ℕ) → n ≤ number_from n ds
number_from_ge n [] = omega arith
number_from_ge n (c ∷ cs) = omega (arith, number_from_ge (10 * n + (c - 48)) cs)

-- one more digit
pub number_more : (n : ℕ) (ds : List ℕ) (i : ℕ) → i < length ds
    → number_from n (drop i ds) ≡ number_from (n * 10 + (get_or ds i 0 - 48)) (drop (i + 1) ds)
number_more n ds i lt =
    at_drop_more (number_from n) ds i 0 lt
    ∙ ap (λ m. number_from (m + (get_or ds i 0 - 48)) (drop (i + 1) ds)) (omega arith)
