-- Lists of numbers, each of which stands there once.
use Rattle.std.proofs.Common.{◌≡◌, ◌≢◌, ℕ, zero, suc, ◌+◌, ◌<◌, ◌≤◌, ◌==◌, ◌||◌, Bool, true}
use Rattle.std.proofs.Common.{false, cond, nat_eq, List, [], ◌∷◌, map, length, get_or, filter}
use Rattle.std.proofs.Common.{sum_by, All, Contains, refl, sym, ap, subst, ◌∙◌, arith}
use Rattle.std.specs.List.{AllByRecursion, IsDistinct, list_any}
use Rattle.std.proofs.lemmas.List.Elements.{All-from_recursion, recursion_from_All, All-filter, All-head, All-tail}
use Rattle.std.proofs.lemmas.List.Sums.{sum_by-cons}
use Rattle.std.proofs.Math.Numerals.{suc-eq-add-one}
use Rattle.jr_model.specs.Maps.{update, sum_below}
use Rattle.jr_model.proofs.Lengths.{sum_same, sum_zero}
use Rattle.jr_model.proofs.Updates.{eq_true, eq_false, at_number}

-- a number that is left out of a sum
left_out : (f : ℕ → ℕ) (k j : ℕ) → k ≢ j → update nat_eq f k 0 j ≡ f j
left_out f k j ne = at_number (λ y. y ≡ f j) f k j 0 (λ e. absurd (ne e)) (λ n. refl)

sum_without : (n k : ℕ) (f : ℕ → ℕ) → k < n → sum_below n f ≡ f k + sum_below n (update nat_eq f k 0)
unfolding sum_below
sum_without zero k f l = absurd (omega arith)
sum_without (suc n) k f l = go (k == n) refl (λ m. sum_without n k f m)
  where
    go : (b : Bool) → (k == n) ≡ b → (k < n → sum_below n f ≡ f k + sum_below n (update nat_eq f k 0))
        → sum_below n f + f n ≡ f k + (sum_below n (update nat_eq f k 0) + update nat_eq f k 0 n)
    go true e rest =
        let here : k ≡ n = eq_true k n e in
        let none : update nat_eq f k 0 n ≡ 0 = ap (λ b. cond b 0 (f n)) e in
        let same : sum_below n (update nat_eq f k 0) ≡ sum_below n f =
        sum_same n f (update nat_eq f k 0) (λ j m. left_out f k j (λ q. absurd (omega arith))) in
        let last : f k ≡ f n = ap f here in
        omega arith
    go false e rest =
        let apart : k ≢ n = eq_false k n e in
        let before : sum_below n f ≡ f k + sum_below n (update nat_eq f k 0) = rest (omega arith) in
        let last : update nat_eq f k 0 n ≡ f n = left_out f k n apart in
        omega arith

pub sum_more : (n : ℕ) (f : ℕ → ℕ) → sum_below (n + 1) f ≡ sum_below n f + f n
unfolding sum_below
sum_more n f = ap (λ m. sum_below m f) (sym (suc-eq-add-one n))

-- a sum at numbers below a bound, each of which stands for one number
-- alone, is no more than that over all numbers below the bound
pub sum_once : (n m : ℕ) (g f : ℕ → ℕ) → ((i : ℕ) → i < n → g i < m) → ((i j : ℕ) → i < n → j < n → g i ≡ g j → i ≡ j)
    → sum_below n (λ i. f (g i)) ≤ sum_below m f
unfolding sum_below
sum_once zero m g f below once = omega arith
sum_once (suc n) m g f below once =
    let rest : sum_below n (λ i. update nat_eq f (g n) 0 (g i)) ≤ sum_below m (update nat_eq f (g n) 0) = sum_once n m g
    (update nat_eq f (g n) 0) (λ i l. below i (omega arith)) (λ i j l l' e. once i j (omega arith) (omega arith) e) in
    let same : sum_below n (λ i. update nat_eq f (g n) 0 (g i)) ≡ sum_below n (λ i. f (g i)) =
    sum_same n (λ i. f (g i)) (λ i. update nat_eq f (g n) 0 (g i)) (λ i l.
    left_out f (g n) (g i) (λ e. let z = once n i (omega arith) (omega arith) e in absurd (omega arith))) in
    let whole = sum_without m (g n) f (below n (omega arith)) in
    omega arith

sum_but : (xs : List ℕ) (x : ℕ) (f : ℕ → ℕ) → AllByRecursion (λ y. nat_eq x y ≡ false) xs
    → sum_by (update nat_eq f x 0) xs ≡ sum_by f xs
sum_but [] x f apart = refl
sum_but (y ∷ ys) x f apart =
    let rest = sum_but ys x f apart.1 in
    let here : update nat_eq f x 0 y ≡ f y = ap (λ b. cond b 0 (f y)) apart.0 in
    let a = sum_by-cons (update nat_eq f x 0) y ys in
    let b = sum_by-cons f y ys in
    omega arith

-- A SUM OVER A LIST that has each number once, and of which the
-- others count nothing, is one over all numbers below a bound
pub sum_listed : (xs : List ℕ) (n : ℕ) (f : ℕ → ℕ) → IsDistinct nat_eq xs → AllByRecursion (λ x. x < n) xs
    → ((o : ℕ) → list_any (λ y. y == o) xs ≡ false → f o ≡ 0) → sum_by f xs ≡ sum_below n f
unfolding IsDistinct
sum_listed [] n f d below none = sym (sum_zero n f (λ o. none o refl))
sum_listed (x ∷ xs) n f d below none =
    let rest : sum_by (update nat_eq f x 0) xs ≡ sum_below n (update nat_eq f x 0) =
    sum_listed xs n (update nat_eq f x 0) d.1 below.1 (λ o e. others o e (x == o) refl) in
    let same = sum_but xs x f d.0 in
    let whole = sum_without n x f below.0 in
    let first = sum_by-cons f x xs in
    omega arith
  where
    others : (o : ℕ) → list_any (λ y. y == o) xs ≡ false → (b : Bool) → (x == o) ≡ b → cond (nat_eq x o) 0 (f o) ≡ 0
    others o e true q = ap (λ b. cond b 0 (f o)) q
    others o e false q = ap (λ b. cond b 0 (f o)) q ∙ none o (ap (λ b. b || list_any (λ y. y == o) xs) q ∙ e)

-- what passes a test is distinct still
pub distinct_filter : (p : ℕ → Bool) (xs : List ℕ) → IsDistinct nat_eq xs → IsDistinct nat_eq (filter p xs)
unfolding IsDistinct
distinct_filter p [] d = tt
distinct_filter p (x ∷ xs) d = go (p x) (distinct_filter p xs d.1)
  where
    apart : AllByRecursion (λ y. nat_eq x y ≡ false) (filter p xs)
    apart = recursion_from_All (λ y. nat_eq x y ≡ false) (filter p xs)
        (All-filter p (λ y. nat_eq x y ≡ false) xs (All-from_recursion (λ y. nat_eq x y ≡ false) xs d.0))

    go : (b : Bool) → IsDistinct nat_eq (filter p xs) → IsDistinct nat_eq (cond b (x ∷ filter p xs) (filter p xs))
    go true rest = (apart, rest)
    go false rest = rest

-- and counts what it did
pub sum_filter : (p : ℕ → Bool) (f : ℕ → ℕ) (xs : List ℕ) → ((x : ℕ) → p x ≡ false → f x ≡ 0)
    → sum_by f (filter p xs) ≡ sum_by f xs
sum_filter p f [] none = refl
sum_filter p f (x ∷ xs) none = go (p x) refl (sum_filter p f xs none)
  where
    go : (b : Bool) → p x ≡ b → sum_by f (filter p xs) ≡ sum_by f xs
        → sum_by f (cond (p x) (x ∷ filter p xs) (filter p xs)) ≡ sum_by f (x ∷ xs)
    go true e rest =
        let a = sum_by-cons f x (filter p xs) in
        let b = sum_by-cons f x xs in
        ap (λ t. sum_by f (cond t (x ∷ filter p xs) (filter p xs))) e ∙ (omega arith)
    go false e rest =
        let b = sum_by-cons f x xs in
        let nothing = none x e in
        ap (λ t. sum_by f (cond t (x ∷ filter p xs) (filter p xs))) e ∙ (omega arith)

module _ {X : Type 0} (f : X → ℕ) where
  -- sums over elements that count alike
  pub sum_map : (g : ℕ → ℕ) (count : X → ℕ) (xs : List X) → All (λ x. g (f x) ≡ count x) xs
      → sum_by g (map f xs) ≡ sum_by count xs
  sum_map g count [] same = refl
  sum_map g count (x ∷ xs) same =
      let rest = sum_map g count xs (All-tail (λ x. g (f x) ≡ count x) x xs same) in
      let here : g (f x) ≡ count x = All-head (λ x. g (f x) ≡ count x) x xs same in
      let a = sum_by-cons g (f x) (map f xs) in
      let b = sum_by-cons count x xs in
      omega arith

  pub get_map : (xs : List X) (i : ℕ) (d : X) → i < length xs → get_or (map f xs) i (f d) ≡ f (get_or xs i d)
  get_map [] i d l = refl
  get_map (x ∷ xs) zero d l = refl
  get_map (x ∷ xs) (suc i) d l = get_map xs i d (omega arith)

-- what is in a list and passes a test is among what passes
pub in_filter : (p : ℕ → Bool) (xs : List ℕ) (x : ℕ) → p x ≡ true → Contains xs x → Contains (filter p xs) x
in_filter p [] x e c = let none = c.1 in absurd (omega arith)
in_filter p (y ∷ ys) x e (zero, l, is) =
    subst (λ b. Contains (cond b (y ∷ filter p ys) (filter p ys)) x) (sym (ap p is ∙ e)) (zero, omega arith, is)
in_filter p (y ∷ ys) x e (suc i, l, is) = go (p y) (in_filter p ys x e (i, (omega arith), is))
  where
    go : (b : Bool) → Contains (filter p ys) x → Contains (cond b (y ∷ filter p ys) (filter p ys)) x
    go true c = (suc c.0, (let m = c.1 in omega arith), c.2)
    go false c = c

-- an element is the same whatever would stand for one that is missing
pub get_any : {X : Type 0} (xs : List X) (i : ℕ) (d e : X) → i < length xs → get_or xs i d ≡ get_or xs i e
get_any [] i d e l = absurd (omega arith)
get_any (x ∷ xs) zero d e l = refl
get_any (x ∷ xs) (suc i) d e l = get_any xs i d e (omega arith)
