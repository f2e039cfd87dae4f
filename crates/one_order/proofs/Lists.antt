-- What is so of each of a list, what a list has, and what one thread does of it.
use Rattle.std.proofs.Common.{◌≡◌, ◌⊎◌, inl, inr, ◌==◌, ℕ, zero, suc, Bool, true, false, cond, List, [], ◌∷◌, ◌++◌, map}
use Rattle.std.proofs.Common.{Contains, refl, sym, ap, subst, ◌∙◌, arith, eq-eqb, eqb-true}
use Rattle.std.specs.List.{AllByRecursion}
use Rattle.one_order.specs.Orders.{done_by}

-- WHAT IS SO OF EACH

pub all_weaker : {X : Type 0} {P Q : X → Type 0} → ((x : X) → P x → Q x) → (xs : List X) → AllByRecursion P xs
    → AllByRecursion Q xs
all_weaker f [] h = tt
all_weaker f (x ∷ xs) h = (f x h.0, all_weaker f xs h.1)

pub all_append : {X : Type 0} (P : X → Type 0) (xs ys : List X) → AllByRecursion P xs → AllByRecursion P ys
    → AllByRecursion P (xs ++ ys)
all_append P [] ys a b = b
all_append P (x ∷ xs) ys a b = (a.0, all_append P xs ys a.1 b)

pub all_map : {X Y : Type 0} (f : X → Y) (P : Y → Type 0) (xs : List X) → AllByRecursion (λ x. P (f x)) xs
    → AllByRecursion P (map f xs)
all_map f P [] h = tt
all_map f P (x ∷ xs) h = (h.0, all_map f P xs h.1)

-- of one more, or not
pub all_choice : {X : Type 0} (P : X → Type 0) (b : Bool) (x : X) (xs : List X) → P x → AllByRecursion P xs
    → AllByRecursion P (cond b (x ∷ xs) xs)
all_choice P true x xs p h = (p, h)
all_choice P false x xs p h = h

-- what is so of all is so of each thread's
pub all_done : {X : Type 0} (P : X → Type 0) (xs : List (ℕ × X)) (t : ℕ) → AllByRecursion (λ x. P x.1) xs
    → AllByRecursion P (done_by xs t)
all_done P [] t h = tt
all_done P (x ∷ xs) t h = all_choice P (x.0 == t) x.1 (done_by xs t) h.0 (all_done P xs t h.1)

-- WHAT ONE THREAD DOES

pub done_here : {X : Type 0} (t : ℕ) (x : ℕ × X) (xs : List (ℕ × X)) → (x.0 == t) ≡ true
    → done_by (x ∷ xs) t ≡ x.1 ∷ done_by xs t
done_here t x xs e = ap (λ b. cond b (x.1 ∷ done_by xs t) (done_by xs t)) e

pub done_elsewhere : {X : Type 0} (t : ℕ) (x : ℕ × X) (xs : List (ℕ × X)) → (x.0 == t) ≡ false
    → done_by (x ∷ xs) t ≡ done_by xs t
done_elsewhere t x xs e = ap (λ b. cond b (x.1 ∷ done_by xs t) (done_by xs t)) e

-- of one more that is not there, there is none
pub none_chosen : {X : Type 0} (b : Bool) (x : X) (xs : List X) → cond b (x ∷ xs) xs ≡ [] → (b ≡ false) × (xs ≡ [])
none_chosen true x xs e = absurd cc
none_chosen false x xs e = (refl, e)

choice_append : {X : Type 0} (b : Bool) (x : X) (xs ys : List X)
    → cond b (x ∷ (xs ++ ys)) (xs ++ ys) ≡ cond b (x ∷ xs) xs ++ ys
choice_append true x xs ys = refl
choice_append false x xs ys = refl

pub done_append : {X : Type 0} (xs ys : List (ℕ × X)) (t : ℕ) → done_by (xs ++ ys) t ≡ done_by xs t ++ done_by ys t
done_append [] ys t = refl
done_append (x ∷ xs) ys t = ap (λ l. cond (x.0 == t) (x.1 ∷ l) l) (done_append xs ys t)
    ∙ choice_append (x.0 == t) x.1 (done_by xs t) (done_by ys t)

pub done_by_no_one : {X : Type 0} (xs : List (ℕ × X)) → ((t : ℕ) → done_by xs t ≡ []) → xs ≡ []
done_by_no_one [] h = refl
done_by_no_one (x ∷ xs) h = absurd (let bad = sym (done_here x.0 x xs (eq-eqb x.0 x.0 refl)) ∙ h x.0 in cc)

-- all of these done by thread t
abbrev pub tagged : {X : Type 0} → ℕ → List X → List (ℕ × X)
tagged t xs = map (λ x. (t, x)) xs

pub done_tagged : {X : Type 0} (t : ℕ) (xs : List X) → done_by (tagged t xs) t ≡ xs
done_tagged t [] = refl
done_tagged t (x ∷ xs) = done_here t (t, x) (tagged t xs) (eq-eqb t t refl) ∙ ap (λ l. x ∷ l) (done_tagged t xs)

pub done_by_others : {X : Type 0} (t u : ℕ) (xs : List X) → (t == u) ≡ false → done_by (tagged t xs) u ≡ []
done_by_others t u [] e = refl
done_by_others t u (x ∷ xs) e = done_elsewhere u (t, x) (tagged t xs) e ∙ done_by_others t u xs e

-- WHAT A LIST HAS

pub contains_first : {X : Type 0} (x : X) (xs : List X) → Contains (x ∷ xs) x
contains_first x xs = (0, omega arith, refl)

pub contains_behind : {X : Type 0} (y : X) (xs : List X) (x : X) → Contains xs x → Contains (y ∷ xs) x
contains_behind y xs x h = let less = h.1 in (suc h.0, omega arith, h.2)

pub contains_cases : {X : Type 0} (y : X) (xs : List X) (x : X) → Contains (y ∷ xs) x → (y ≡ x) ⊎ Contains xs x
contains_cases y xs x (zero, less, is) = inl is
contains_cases y xs x (suc k, less, is) = inr (k, omega arith, is)

contains_nothing : {X : Type 0} (x : X) → Contains [] x → ⊥
contains_nothing x h = let less = h.1 in omega arith

pub contains_map : {X Y : Type 0} (f : X → Y) (xs : List X) (x : X) → Contains xs x → Contains (map f xs) (f x)
contains_map f [] x h = absurd (contains_nothing x h)
contains_map {X} f (y ∷ xs) x h = go (contains_cases y xs x h) (λ k. contains_map f xs x k)
  where
    go : (y ≡ x) ⊎ Contains xs x → (Contains xs x → Contains (map f xs) (f x)) → Contains (f y ∷ map f xs) (f x)
    go (inl e) more = subst (λ z. Contains (f y ∷ map f xs) (f z)) e (contains_first (f y) (map f xs))
    go (inr k) more = contains_behind (f y) (map f xs) (f x) (more k)

pub contains_from_map : {X Y : Type 0} (f : X → Y) (xs : List X) (y : Y) → Contains (map f xs) y
    → (x : X) × (f x ≡ y) × Contains xs x
contains_from_map f [] y h = absurd (contains_nothing y h)
contains_from_map {X} f (x ∷ xs) y h = go (contains_cases (f x) (map f xs) y h) (λ k. contains_from_map f xs y k)
  where
    go : (f x ≡ y) ⊎ Contains (map f xs) y → (Contains (map f xs) y → (z : X) × (f z ≡ y) × Contains xs z)
        → (z : X) × (f z ≡ y) × Contains (x ∷ xs) z
    go (inl e) more = (x, e, contains_first x xs)
    go (inr k) more = let r = more k in (r.0, r.1, contains_behind x xs r.0 r.2)

-- what a thread does is there, and is that thread's
pub contains_done : {X : Type 0} (xs : List (ℕ × X)) (t : ℕ) (x : X) → Contains (done_by xs t) x → Contains xs (t, x)
contains_done [] t x h = absurd (contains_nothing x h)
contains_done (y ∷ xs) t x h = go (y.0 == t) refl h (λ k. contains_done xs t x k)
  where
    same : (y.0 == t) ≡ true → y.1 ≡ x → y ≡ (t, x)
    same is e = ap (λ z. (z, y.1)) (eqb-true y.0 t is) ∙ ap (λ z. (t, z)) e

    is_here : (y.0 == t) ≡ true → (y.1 ≡ x) ⊎ Contains (done_by xs t) x
        → (Contains (done_by xs t) x → Contains xs (t, x))
        → Contains (y ∷ xs) (t, x)
    is_here is (inl e) more = subst (Contains (y ∷ xs)) (same is e) (contains_first y xs)
    is_here is (inr k) more = contains_behind y xs (t, x) (more k)

    go : (b : Bool) → (y.0 == t) ≡ b → Contains (cond b (y.1 ∷ done_by xs t) (done_by xs t)) x
        → (Contains (done_by xs t) x → Contains xs (t, x)) → Contains (y ∷ xs) (t, x)
    go true is h more = is_here is (contains_cases y.1 (done_by xs t) x h) more
    go false is h more = contains_behind y xs (t, x) (more h)
