-- What is counted: lists that have each number below a bound, creations and deletions of histories that are joined,
-- and a row that was full in a part of a call.
use Rattle.std.proofs.Common.{◌≡◌, ◌≢◌, ◌⊎◌, inl, inr, ⊎_elim, ◌<◌, ◌≤◌, ◌+◌, ◌==◌, ℕ, zero, suc, Bool, true, false}
use Rattle.std.proofs.Common.{cond, List, [], ◌∷◌, ◌++◌, map, length, refl, sym, ap, subst, ◌∙◌, arith, append_assoc}
use Rattle.jr_model.specs.Maps.{sum_below, count_below}
use Rattle.jr_model.specs.History.{History}
use Rattle.jr_model.proofs.Counts.{count_none}
use Rattle.jr_model.proofs.Updates.{eq_true, eq_false}
use Rattle.jr_world.specs.Fullness.{created_by, creations, deleted_by, deletions}

-- x is one of the list
abbrev pub IsOneOf : {X : Type 0} → X → List X → Type 0
IsOneOf x [] = ⊥
IsOneOf x (y ∷ ys) = (y ≡ x) ⊎ IsOneOf x ys

pub one_of_left : {X : Type 0} (x : X) (xs ys : List X) → IsOneOf x xs → IsOneOf x (xs ++ ys)
one_of_left x [] ys h = absurd h
one_of_left x (y ∷ xs) ys (inl e) = inl e
one_of_left x (y ∷ xs) ys (inr h) = inr (one_of_left x xs ys h)

pub one_of_right : {X : Type 0} (x : X) (xs ys : List X) → IsOneOf x ys → IsOneOf x (xs ++ ys)
one_of_right x [] ys h = h
one_of_right x (y ∷ xs) ys h = inr (one_of_right x xs ys h)

pub one_of_map : {X Y : Type 0} (f : X → Y) (x : X) (xs : List X) → IsOneOf x xs → IsOneOf (f x) (map f xs)
one_of_map f x [] h = absurd h
one_of_map f x (y ∷ xs) (inl e) = inl (ap f e)
one_of_map f x (y ∷ xs) (inr h) = inr (one_of_map f x xs h)

pub map_long : {X Y : Type 0} (f : X → Y) (xs : List X) → length (map f xs) ≡ length xs
map_long f [] = refl
map_long f (x ∷ xs) = ap suc (map_long f xs)

pub both_long : {X : Type 0} (xs ys : List X) → length (xs ++ ys) ≡ length xs + length ys
both_long [] ys = omega arith
both_long (x ∷ xs) ys = let h = both_long xs ys in omega (arith, h)

-- a list without one of its own is shorter, and has all others
take_out : (n : ℕ) (xs : List ℕ) → IsOneOf n xs
    → (ys : List ℕ) × (length xs ≡ suc (length ys)) × ((i : ℕ) → i ≢ n → IsOneOf i xs → IsOneOf i ys)
take_out n [] h = absurd h
take_out n (x ∷ xs) (inl e) = (
  xs,
  refl,
  λ i ne h. ⊎_elim (λ (is : x ≡ i). absurd (ne (sym is ∙ e)))
      (λ (r : IsOneOf i xs). r) h,
)
take_out n (x ∷ xs) (inr h) =
    let r = take_out n xs h in
    (x ∷ r.0, ap suc r.1, λ i ne g. ⊎_elim (λ (is : x ≡ i). inl is) (λ (q : IsOneOf i xs). inr (r.2 i ne q)) g)

-- PIGEONHOLE: a list that has each number below n is at least so long
pub enough : (n : ℕ) (xs : List ℕ) → ((i : ℕ) → i < n → IsOneOf i xs) → n ≤ length xs
enough zero xs h = omega arith
enough (suc n) xs h =
    let r = take_out n xs (h n (omega arith)) in
    let others : (i : ℕ) → i < n → IsOneOf i r.0
    = λ i l. r.2 i (λ e. absurd (omega (arith, e, l))) (h i (omega (arith, l))) in
    let le : n ≤ length r.0 = enough n r.0 others in
    let is = r.1 in
    omega (arith, le, is)

-- so many times i
abbrev many : ℕ → ℕ → List ℕ
many i zero = []
many i (suc n) = i ∷ many i n

many_long : (i n : ℕ) → length (many i n) ≡ n
many_long i zero = refl
many_long i (suc n) = ap suc (many_long i n)

many_has : (i n : ℕ) → 1 ≤ n → IsOneOf i (many i n)
many_has i zero l = absurd (omega arith)
many_has i (suc n) l = inl refl

-- each number below n as often as f says
abbrev pub each_so_often : ℕ → (ℕ → ℕ) → List ℕ
each_so_often zero f = []
each_so_often (suc n) f = each_so_often n f ++ many n (f n)

pub so_often_long : (n : ℕ) (f : ℕ → ℕ) → length (each_so_often n f) ≡ sum_below n f
unfolding sum_below
so_often_long zero f = refl
so_often_long (suc n) f =
    let a = both_long (each_so_often n f) (many n (f n)) in
    let b = so_often_long n f in
    let d = many_long n (f n) in
    omega (arith, a, b, d)

pub so_often_has : (n : ℕ) (f : ℕ → ℕ) (i : ℕ) → i < n → 1 ≤ f i → IsOneOf i (each_so_often n f)
so_often_has zero f i l p = absurd (omega arith)
so_often_has (suc n) f i l p = go (i == n) refl (λ m. so_often_has n f i m p)
  where
    here : i ≡ n → IsOneOf i (each_so_often n f ++ many n (f n))
    here e = one_of_right i (each_so_often n f) (many n (f n))
        (subst (λ k. IsOneOf k (many n (f n))) (sym e) (many_has n (f n) (subst (λ k. 1 ≤ f k) e p)))

    go : (b : Bool) → (i == n) ≡ b → (i < n → IsOneOf i (each_so_often n f))
        → IsOneOf i (each_so_often n f ++ many n (f n))
    go true e r = here (eq_true i n e)
    go false e r =
        one_of_left i (each_so_often n f) (many n (f n)) (r (let ne = eq_false i n e in omega arith))

-- one that passes is counted
pub one_counts : (n : ℕ) (p : ℕ → Bool) (k : ℕ) → k < n → p k ≡ true → 1 ≤ count_below n p
one_counts n p k l is = go (count_below n p) refl
  where
    go : (m : ℕ) → count_below n p ≡ m → 1 ≤ m
    go zero e = absurd (let none = count_none n p e k l in cc)
    go (suc m) e = omega arith

-- each number of the list stands there once
abbrev pub AreDistinct : List ℕ → Type 0
AreDistinct [] = Unit {0}
AreDistinct (x ∷ xs) = (IsOneOf x xs → ⊥) × AreDistinct xs

-- a list without the first n
less_first : ℕ → List ℕ → List ℕ
less_first n [] = []
less_first n (x ∷ xs) = cond (x == n) xs (x ∷ less_first n xs)

less_has : (n i : ℕ) (xs : List ℕ) → IsOneOf i (less_first n xs) → IsOneOf i xs
unfolding less_first
less_has n i [] h = h
less_has n i (x ∷ xs) h = go (x == n) h (less_has n i xs)
  where
    go : (b : Bool) → IsOneOf i (cond b xs (x ∷ less_first n xs)) → (IsOneOf i (less_first n xs) → IsOneOf i xs)
        → (x ≡ i) ⊎ IsOneOf i xs
    go true h r = inr h
    go false (inl e) r = inl e
    go false (inr h) r = inr (r h)

less_long : (n : ℕ) (xs : List ℕ) → length xs ≤ suc (length (less_first n xs))
unfolding less_first
less_long n [] = omega arith
less_long n (x ∷ xs) = go (x == n) (less_long n xs)
  where
    go : (b : Bool) → length xs ≤ suc (length (less_first n xs))
        → suc (length xs) ≤ suc (length (cond b xs (x ∷ less_first n xs)))
    go true h = omega arith
    go false h = omega (arith, h)

less_distinct : (n : ℕ) (xs : List ℕ) → AreDistinct xs
    → AreDistinct (less_first n xs) × (IsOneOf n (less_first n xs) → ⊥)
unfolding less_first
less_distinct n [] d = (tt, λ h. h)
less_distinct n (x ∷ xs) d = go (x == n) refl (less_distinct n xs d.1) (less_has n x xs)
  where
    go : (b : Bool) → (x == n) ≡ b → AreDistinct (less_first n xs) × (IsOneOf n (less_first n xs) → ⊥)
        → (IsOneOf x (less_first n xs) → IsOneOf x xs)
        → AreDistinct (cond b xs (x ∷ less_first n xs)) × (IsOneOf n (cond b xs (x ∷ less_first n xs)) → ⊥)
    go true e r less = (d.1, λ h. d.0 (subst (λ m. IsOneOf m xs) (sym (eq_true x n e)) h))
    go false e r less = (
      (λ h. d.0 (less h), r.0),
      λ h. ⊎_elim (λ (is : x ≡ n). eq_false x n e is)
          (λ (q : IsOneOf n (less_first n xs)). r.1 q) h,
    )

-- PIGEONHOLE: no more than n numbers below n are distinct
pub at_most : (n : ℕ) (xs : List ℕ) → AreDistinct xs → ((i : ℕ) → IsOneOf i xs → i < n) → length xs ≤ n
at_most zero [] d f = omega arith
at_most zero (x ∷ xs) d f = absurd (let none = f x (inl refl) in omega (arith, none))
at_most (suc n) xs d f =
    let w = less_distinct n xs d in
    let below : (i : ℕ) → IsOneOf i (less_first n xs) → i < n
    = λ i h.
    let l = f i (less_has n i xs h) in
    let ne : i ≢ n = λ e. w.1 (subst (λ m. IsOneOf m (less_first n xs)) e h) in
    omega (arith, l, ne) in
    let le : length (less_first n xs) ≤ n = at_most n (less_first n xs) w.0 below in
    let more = less_long n xs in
    omega (arith, le, more)

-- CREATIONS AND DELETIONS of two histories, one after the other
pub creations_append : (xs ys : History) → creations (xs ++ ys) ≡ creations xs ++ creations ys
creations_append [] ys = refl
creations_append (e ∷ xs) ys = ap (λ z. created_by e.act ++ z) (creations_append xs ys)
    ∙ sym (append_assoc (created_by e.act) (creations xs) (creations ys))

pub deletions_append : (xs ys : History) → deletions (xs ++ ys) ≡ deletions xs ++ deletions ys
deletions_append [] ys = refl
deletions_append (e ∷ xs) ys = ap (λ z. deleted_by e.act ++ z) (deletions_append xs ys)
    ∙ sym (append_assoc (deleted_by e.act) (deletions xs) (deletions ys))

pub creations_long : (xs ys : History) → length (creations (xs ++ ys)) ≡ length (creations xs) + length (creations ys)
creations_long xs ys = ap length (creations_append xs ys) ∙ both_long (creations xs) (creations ys)

pub deletions_long : (xs ys : History) → length (deletions (xs ++ ys)) ≡ length (deletions xs) + length (deletions ys)
deletions_long xs ys = ap length (deletions_append xs ys) ∙ both_long (deletions xs) (deletions ys)
