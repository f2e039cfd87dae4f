-- How many times a number is in a list.
use Rattle.std.proofs.Common.{◌≡◌, ◌≢◌, ◌==◌, ◌+◌, ◌<◌, ◌≤◌, ⊎_elim, ℕ, zero, suc, Bool, true, false, not, cond}
use Rattle.std.proofs.Common.{if◌then◌else◌, List, [], ◌∷◌, ◌++◌, map, length, refl, sym, ap, subst, ◌∙◌, zero-add}
use Rattle.std.proofs.Common.{arith}
use Rattle.std.proofs.lemmas.Bool.{cases_lt, eqb-true, eqb-false, eq-eqb}
use Rattle.std.proofs.lemmas.Bool.Decides.{nat_tests}
use Rattle.std.proofs.lemmas.List.Elements.{filter-append}
use Rattle.std.specs.List.{AllByRecursion, concat}
use Rattle.linked_lists.specs.Lists.{times, without_number}

pub pick_self : {X : Type 0} (q : ℕ) (x y : X) → cond (q == q) x y ≡ x
pick_self q x y = ap (λ b. cond b x y) (eq-eqb q q refl)

pub pick_other : {X : Type 0} (q p : ℕ) (x y : X) → q ≢ p → cond (q == p) x y ≡ y
pick_other q p x y ne = ap (λ b. cond b x y) (let e : (q == p) ≡ false = grind (arith, nat_tests) in e)

pub times_append : (p : ℕ) (xs ys : List ℕ) → times p (xs ++ ys) ≡ times p xs + times p ys
times_append p [] ys = omega arith
times_append p (x ∷ xs) ys = omega (arith, times_append p xs ys)

pub times_here : (x : ℕ) (xs : List ℕ) → times x (x ∷ xs) ≡ 1 + times x xs
times_here x xs = ap (λ n. n + times x xs) (pick_self x 1 0)

pub times_there : (p x : ℕ) (xs : List ℕ) → x ≢ p → times p (x ∷ xs) ≡ times p xs
times_there p x xs ne = ap (λ n. n + times p xs) (pick_other x p 1 0 ne) ∙ zero-add (times p xs)

-- a number that is not in a list is none of its numbers
pub not_first : (p x : ℕ) (xs : List ℕ) → times p (x ∷ xs) ≡ 0 → (x ≢ p) × (times p xs ≡ 0)
not_first p x xs none = (
  λ e. absurd (omega (arith, subst (λ q. times q (x ∷ xs) ≡ 0) (sym e) none, times_here x xs)),
  omega arith,
)

pub all_other : (p : ℕ) (xs : List ℕ) → times p xs ≡ 0 → AllByRecursion (λ y. y ≢ p) xs
all_other p [] none = tt
all_other p (x ∷ xs) none = let n = not_first p x xs none in (n.0, all_other p xs n.1)

-- where no number from a bound on is in a list, all its numbers are below a higher one
pub all_below : (n m : ℕ) (xs : List ℕ) → n ≤ m → ((q : ℕ) → n ≤ q → times q xs ≡ 0) → AllByRecursion (λ y. y < m) xs
all_below n m [] l none = tt
all_below n m (x ∷ xs) l none = (
  ⊎_elim (λ (low : x < m). low) (λ (g : m ≤ x). absurd ((not_first x x xs (none x (omega arith))).0 refl))
      (cases_lt x m),
  all_below n m xs l (λ q g. (not_first q x xs (none q g)).1),
)

pub none_left : (p : ℕ) (xs ys : List ℕ) → times p (xs ++ ys) ≡ 0 → times p xs ≡ 0
none_left p xs ys none = omega (arith, times_append p xs ys)

pub none_right : (p : ℕ) (xs ys : List ℕ) → times p (xs ++ ys) ≡ 0 → times p ys ≡ 0
none_right p xs ys none = omega (arith, times_append p xs ys)

pub without_here : (p : ℕ) (xs : List ℕ) → without_number p (p ∷ xs) ≡ without_number p xs
without_here p xs = ap (λ b. cond (not b) (p ∷ without_number p xs) (without_number p xs)) (eq-eqb p p refl)

pub without_other : (p x : ℕ) (xs : List ℕ) → x ≢ p → without_number p (x ∷ xs) ≡ x ∷ without_number p xs
without_other p x xs ne = ap (λ b. cond (not b) (x ∷ without_number p xs) (without_number p xs))
    (let e : (x == p) ≡ false = grind (arith, nat_tests) in e)

pub without_none : (p : ℕ) (xs : List ℕ) → times p xs ≡ 0 → without_number p xs ≡ xs
without_none p [] none = refl
without_none p (x ∷ xs) none = let n = not_first p x xs none in
    without_other p x xs n.0 ∙ ap (λ l. x ∷ l) (without_none p xs n.1)

pub times_without_self : (p : ℕ) (xs : List ℕ) → times p (without_number p xs) ≡ 0
times_without_self p [] = refl
times_without_self p (x ∷ xs) = go (x == p) refl (times_without_self p xs)
  where
    go : (b : Bool) → (x == p) ≡ b → times p (without_number p xs) ≡ 0
        → times p (cond (not b) (x ∷ without_number p xs) (without_number p xs)) ≡ 0
    go true e rest = rest
    go false e rest = times_there p x (without_number p xs) (eqb-false x p e) ∙ rest

pub times_without_other : (p q : ℕ) → q ≢ p → (xs : List ℕ) → times q (without_number p xs) ≡ times q xs
times_without_other p q ne [] = refl
times_without_other p q ne (x ∷ xs) = go (x == p) refl (times_without_other p q ne xs)
  where
    go : (b : Bool) → (x == p) ≡ b → times q (without_number p xs) ≡ times q xs
        → times q (cond (not b) (x ∷ without_number p xs) (without_number p xs)) ≡ times q (x ∷ xs)
    go true e rest = rest ∙ sym (times_there q x xs (λ f. ne (sym f ∙ eqb-true x p e)))
    go false e rest = ap (λ n. (if x == q then 1 else 0) + n) rest

-- so many are taken out
pub length_without : (p : ℕ) (xs : List ℕ) → length (without_number p xs) + times p xs ≡ length xs
length_without p [] = refl
length_without p (x ∷ xs) = go (x == p) (length_without p xs)
  where
    go : (b : Bool) → length (without_number p xs) + times p xs ≡ length xs
        → length (cond (not b) (x ∷ without_number p xs) (without_number p xs)) + ((if b then 1 else 0) + times p xs)
        ≡ suc (length xs)
    go true rest = omega arith
    go false rest = omega arith

-- a list of numbers below n, none twice, is no longer than n
pub few_numbers : (n : ℕ) (xs : List ℕ) → ((p : ℕ) → n ≤ p → times p xs ≡ 0) → ((p : ℕ) → times p xs ≤ 1)
    → length xs ≤ n
few_numbers n [] below one = omega arith
few_numbers zero (x ∷ xs) below one = absurd ((not_first x x xs (below x (omega arith))).0 refl)
few_numbers (suc n) (x ∷ xs) below one =
    omega (arith, length_without n (x ∷ xs), one n, few_numbers n (without_number n (x ∷ xs)) less few)
  where
    each : (P : ℕ → Type 0) (p : ℕ) → (p ≡ n → P (times p (without_number n (x ∷ xs))))
        → (p ≢ n → P (times p (without_number n (x ∷ xs)))) → P (times p (without_number n (x ∷ xs)))
    each P p self other = go (p == n) refl
      where
        go : (b : Bool) → (p == n) ≡ b → P (times p (without_number n (x ∷ xs)))
        go true e = self (eqb-true p n e)
        go false e = other (eqb-false p n e)

    gone : (p : ℕ) → p ≡ n → times p (without_number n (x ∷ xs)) ≡ 0
    gone p e = subst (λ q. times q (without_number n (x ∷ xs)) ≡ 0) (sym e) (times_without_self n (x ∷ xs))

    less : (p : ℕ) → n ≤ p → times p (without_number n (x ∷ xs)) ≡ 0
    less p g = each (λ k. k ≡ 0) p (gone p)
        (λ ne. times_without_other n p ne (x ∷ xs) ∙ below p (omega arith))

    few : (p : ℕ) → times p (without_number n (x ∷ xs)) ≤ 1
    few p = each (λ k. k ≤ 1) p (λ e. omega (arith, gone p e))
        (λ ne. omega (arith, times_without_other n p ne (x ∷ xs), one p))

pub concat_without : (p : ℕ) (rs : List (List ℕ)) → concat (map (without_number p) rs) ≡ without_number p (concat rs)
concat_without p [] = refl
concat_without p (xs ∷ rest) = ap (λ l. without_number p xs ++ l) (concat_without p rest)
    ∙ sym (filter-append (λ q. not (q == p)) xs (concat rest))

pub map_without_none : (p : ℕ) (rs : List (List ℕ)) → times p (concat rs) ≡ 0 → map (without_number p) rs ≡ rs
map_without_none p [] none = refl
map_without_none p (xs ∷ rest) none =
    ap (λ l. l ∷ map (without_number p) rest) (without_none p xs (none_left p xs (concat rest) none))
    ∙ ap (λ l. xs ∷ l) (map_without_none p rest (none_right p xs (concat rest) none))
