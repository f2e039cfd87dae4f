-- What is reached in the world of what a script means is found in as many rounds as objects were made.
use Rattle.std.proofs.Common.{◌≡◌, ◌⊎◌, ⊎_elim, inl, inr, ℕ, zero, suc, ◌<◌, ◌≤◌, ◌+◌, ◌==◌, ◌||◌, Bool, true, false}
use Rattle.std.proofs.Common.{Option, Some, None, List, [], ◌∷◌, ◌++◌, length, slice_index_or, refl, sym, ap, subst}
use Rattle.std.proofs.Common.{IsSome, ◌∙◌, arith}
use Rattle.std.specs.List.{flat_map, list_any}
use Rattle.jr_model.specs.Maps.{sum_below, count_below}
use Rattle.jr_model.specs.State.{Contents}
use Rattle.jr_model.proofs.Counts.{bit}
use Rattle.jr_model.proofs.Updates.{eq_false, eq_self, eq_true}
use Rattle.jr_world.specs.World.{World, standing_at}
use Rattle.jr_scripts.specs.Sweeps.{elements_of, reached_by}

-- an object stands at the number
abbrev pub IsStanding : List (Option Contents) → ℕ → Type 0
IsStanding objects o = IsSome (standing_at objects o)

pub standing_below : (objects : List (Option Contents)) (o : ℕ) → IsStanding objects o → o < length objects
standing_below [] o stands = absurd cc
standing_below (x ∷ xs) zero stands = omega arith
standing_below (x ∷ xs) (suc o) stands = let rest = standing_below xs o stands in omega (arith, rest)

-- ONE OF SEVERAL NUMBERS
abbrev pub IsIn : ℕ → List ℕ → Type 0
IsIn o [] = ⊥
IsIn o (x ∷ xs) = (x ≡ o) ⊎ IsIn o xs

pub in_front : (o : ℕ) (xs ys : List ℕ) → IsIn o xs → IsIn o (xs ++ ys)
in_front o [] ys i = absurd i
in_front o (x ∷ xs) ys (inl e) = inl e
in_front o (x ∷ xs) ys (inr i) = inr (in_front o xs ys i)

pub in_back : (o : ℕ) (xs ys : List ℕ) → IsIn o ys → IsIn o (xs ++ ys)
in_back o [] ys i = i
in_back o (x ∷ xs) ys i = inr (in_back o xs ys i)

pub in_parts : (o : ℕ) (xs ys : List ℕ) → IsIn o (xs ++ ys) → IsIn o xs ⊎ IsIn o ys
in_parts o [] ys i = inr i
in_parts o (x ∷ xs) ys (inl e) = inl (inl e)
in_parts o (x ∷ xs) ys (inr i) = ⊎_elim (λ j. inl (inr j)) (λ j. inr j) (in_parts o xs ys i)

-- one of those that come of some element, at its index
pub in_flat : {A : Type 0} (f : A → List ℕ) (xs : List A) (i : ℕ) (d : A) (o : ℕ) → i < length xs
    → IsIn o (f (slice_index_or xs i d)) → IsIn o (flat_map f xs)
in_flat f [] i d o small is = absurd (omega arith)
in_flat f (x ∷ xs) zero d o small is = in_front o (f x) (flat_map f xs) is
in_flat f (x ∷ xs) (suc i) d o small is = in_back o (f x) (flat_map f xs) (in_flat f xs i d o (omega arith) is)

pub flat_in : {A : Type 0} (f : A → List ℕ) (xs : List A) (d : A) (o : ℕ) → IsIn o (flat_map f xs)
    → (i : ℕ) × (i < length xs) × IsIn o (f (slice_index_or xs i d))
flat_in f [] d o is = absurd is
flat_in f (x ∷ xs) d o is = ⊎_elim (λ here. (0, omega arith, here))
    (λ there. let r = flat_in f xs d o there in let small : r.0 < length xs = r.1 in (suc r.0, omega arith, r.2))
    (in_parts o (f x) (flat_map f xs) is)

-- the same as a number among several
flat_of : (f : ℕ → List ℕ) (xs : List ℕ) (o : ℕ) → IsIn o (flat_map f xs) → (a : ℕ) × IsIn a xs × IsIn o (f a)
flat_of f [] o is = absurd is
flat_of f (x ∷ xs) o is = ⊎_elim (λ here. (x, inl refl, here))
    (λ there. let r = flat_of f xs o there in (r.0, inr r.1, r.2)) (in_parts o (f x) (flat_map f xs) is)

of_flat : (f : ℕ → List ℕ) (xs : List ℕ) (a o : ℕ) → IsIn a xs → IsIn o (f a) → IsIn o (flat_map f xs)
of_flat f [] a o i is = absurd i
of_flat f (x ∷ xs) a o (inl e) is = in_front o (f x) (flat_map f xs) (subst (λ z. IsIn o (f z)) (sym e) is)
of_flat f (x ∷ xs) a o (inr i) is = in_back o (f x) (flat_map f xs) (of_flat f xs a o i is)

-- the test that finds it
pub found_in : (o : ℕ) (xs : List ℕ) → list_any (λ p. p == o) xs ≡ true → IsIn o xs
found_in o [] e = absurd cc
found_in o (x ∷ xs) e = go (x == o) refl e (λ f. found_in o xs f)
  where
    go : (b : Bool) → (x == o) ≡ b → (b || list_any (λ p. p == o) xs) ≡ true
        → (list_any (λ p. p == o) xs ≡ true → IsIn o xs) → IsIn o (x ∷ xs)
    go true is f rest = inl (eq_true x o is)
    go false is f rest = inr (rest f)

pub in_found : (o : ℕ) (xs : List ℕ) → IsIn o xs → list_any (λ p. p == o) xs ≡ true
in_found o [] i = absurd i
in_found o (x ∷ xs) (inl e) = ap (λ b. b || list_any (λ p. p == o) xs) (ap (λ z. z == o) e ∙ eq_self o)
in_found o (x ∷ xs) (inr i) = ap (λ b. (x == o) || b) (in_found o xs i) ∙ or_true (x == o)
  where
    or_true : (b : Bool) → (b || true) ≡ true
    or_true true = refl
    or_true false = refl

-- COUNTS of a test that passes where another does

bit_most : (b : Bool) → bit b ≤ 1
bit_most true = omega arith
bit_most false = omega arith

count_bound : (n : ℕ) (p : ℕ → Bool) → count_below n p ≤ n
unfolding sum_below
count_bound zero p = omega arith
count_bound (suc n) p =
    let rest : count_below n p ≤ n = count_bound n p in
    let most : bit (p n) ≤ 1 = bit_most (p n) in
    let whole : count_below (suc n) p ≡ count_below n p + bit (p n) = refl in
    omega (arith, rest, most, whole)

abbrev IsSameBelow : ℕ → (ℕ → Bool) → (ℕ → Bool) → Type 0
IsSameBelow n p q = (o : ℕ) → o < n → q o ≡ true → p o ≡ true

same_or_more : (n : ℕ) (p q : ℕ → Bool) → ((o : ℕ) → p o ≡ true → q o ≡ true)
    → (IsSameBelow n p q × (count_below n p ≤ count_below n q)) ⊎ (count_below n p < count_below n q)
unfolding sum_below
same_or_more zero p q grows = inl ((λ o small e. absurd (omega arith)), omega arith)
same_or_more (suc n) p q grows = go (p n) refl (q n) refl (same_or_more n p q grows)
  where
    whole : (r : ℕ → Bool) → count_below (suc n) r ≡ count_below n r + bit (r n)
    whole r = refl

    next : IsSameBelow n p q → (q n ≡ true → p n ≡ true) → IsSameBelow (suc n) p q
    next same last_one o small e = at (o == n) refl
      where
        at : (b : Bool) → (o == n) ≡ b → p o ≡ true
        at true is = subst (λ z. p z ≡ true) (sym (eq_true o n is))
            (last_one (subst (λ z. q z ≡ true) (eq_true o n is) e))
        at false is = same o (let ne = eq_false o n is in omega (arith, small, ne)) e

    go : (b : Bool) → p n ≡ b → (d : Bool) → q n ≡ d
        → (IsSameBelow n p q × (count_below n p ≤ count_below n q)) ⊎ (count_below n p < count_below n q)
        → (IsSameBelow (suc n) p q × (count_below (suc n) p ≤ count_below (suc n) q))
        ⊎ (count_below (suc n) p < count_below (suc n) q)
    go true e false f rest = absurd (let bad = grows n e in cc)
    go true e true f (inl r) =
        let a : bit (p n) ≡ 1 = ap bit e in let b : bit (q n) ≡ 1 = ap bit f in
        let x = whole p in let y = whole q in let le = r.1 in
        inl (next r.0 (λ z. e), omega (arith, a, b, x, y, le))
    go true e true f (inr less) =
        let a : bit (p n) ≡ 1 = ap bit e in let b : bit (q n) ≡ 1 = ap bit f in
        let x = whole p in let y = whole q in
        inr (omega (arith, a, b, x, y, less))
    go false e false f (inl r) =
        let a : bit (p n) ≡ 0 = ap bit e in let b : bit (q n) ≡ 0 = ap bit f in
        let x = whole p in let y = whole q in let le = r.1 in
        inl (next r.0 (λ z. absurd (let bad = sym f ∙ z in cc)), omega (arith, a, b, x, y, le))
    go false e false f (inr less) =
        let a : bit (p n) ≡ 0 = ap bit e in let b : bit (q n) ≡ 0 = ap bit f in
        let x = whole p in let y = whole q in
        inr (omega (arith, a, b, x, y, less))
    go false e true f (inl r) =
        let a : bit (p n) ≡ 0 = ap bit e in let b : bit (q n) ≡ 1 = ap bit f in
        let x = whole p in let y = whole q in let le = r.1 in
        inr (omega (arith, a, b, x, y, le))
    go false e true f (inr less) =
        let a : bit (p n) ≡ 0 = ap bit e in let b : bit (q n) ≡ 1 = ap bit f in
        let x = whole p in let y = whole q in
        inr (omega (arith, a, b, x, y, less))

module _ (w : World) where
  -- what the elements of an object name
  abbrev pub named : ℕ → List ℕ
  named o = elements_of (standing_at w.objects o)

  -- an object that names another one stands
  names_stand : (a o : ℕ) → IsIn o (named a) → IsStanding w.objects a
  names_stand a o = go (standing_at w.objects a)
    where
      go : (x : Option Contents) → IsIn o (elements_of x) → IsSome x
      go None i = absurd i
      go (Some x) i = refl

  begins : (k : ℕ) (os : List ℕ) (o : ℕ) → IsIn o os → IsIn o (reached_by w k os)
  begins zero os o i = i
  begins (suc k) os o i = in_front o os (reached_by w k (flat_map named os)) i

  more : (k : ℕ) (os : List ℕ) (o : ℕ) → IsIn o (reached_by w k os) → IsIn o (reached_by w (suc k) os)
  more zero os o i = in_front o os (flat_map named os) i
  more (suc k) os o i = ⊎_elim (λ j. in_front o os (reached_by w (suc k) (flat_map named os)) j)
      (λ j. in_back o os (reached_by w (suc k) (flat_map named os)) (more k (flat_map named os) o j))
      (in_parts o os (reached_by w k (flat_map named os)) i)

  -- what an element names is found one round later
  next : (k : ℕ) (os : List ℕ) (a o : ℕ) → IsIn a (reached_by w k os) → IsIn o (named a)
      → IsIn o (reached_by w (suc k) os)
  next zero os a o i e = in_back o os (flat_map named os) (of_flat named os a o i e)
  next (suc k) os a o i e = ⊎_elim (λ j. in_back o os (reached_by w (suc k) (flat_map named os))
      (begins (suc k) (flat_map named os) o (of_flat named os a o j e)))
      (λ j. in_back o os (reached_by w (suc k) (flat_map named os)) (next k (flat_map named os) a o j e))
      (in_parts a os (reached_by w k (flat_map named os)) i)

  -- and only that
  from_round : (k : ℕ) (os : List ℕ) (o : ℕ) → IsIn o (reached_by w (suc k) os)
      → IsIn o os ⊎ ((a : ℕ) × IsIn a (reached_by w k os) × IsIn o (named a))
  from_round zero os o i = go (in_parts o os (flat_map named os) i)
    where
      go : IsIn o os ⊎ IsIn o (flat_map named os)
          → IsIn o os ⊎ ((a : ℕ) × IsIn a (reached_by w 0 os) × IsIn o (named a))
      go (inl j) = inl j
      go (inr j) = inr (flat_of named os o j)
  from_round (suc k) os o i = ⊎_elim inl (λ j. inr (further (from_round k (flat_map named os) o j)))
      (in_parts o os (reached_by w (suc k) (flat_map named os)) i)
    where
      further : IsIn o (flat_map named os) ⊎ ((a : ℕ) × IsIn a (reached_by w k (flat_map named os)) × IsIn o (named a))
          → (a : ℕ) × IsIn a (reached_by w (suc k) os) × IsIn o (named a)
      further (inl j) =
          let r = flat_of named os o j in
          (r.0, in_front r.0 os (reached_by w k (flat_map named os)) r.1, r.2)
      further (inr r) = (r.0, in_back r.0 os (reached_by w k (flat_map named os)) r.1, r.2)

  -- what is so of roots, and goes on by elements, is so of all that is found
  pub all_found : (Q : ℕ → Type 0) → ((a o : ℕ) → Q a → IsIn o (named a) → Q o) → (k : ℕ) (os : List ℕ)
      → ((o : ℕ) → IsIn o os → Q o) → (o : ℕ) → IsIn o (reached_by w k os) → Q o
  all_found Q goes zero os first o i = first o i
  all_found Q goes (suc k) os first o i = ⊎_elim (λ j. first o j)
      (λ r. goes r.0 o (all_found Q goes k os first r.0 r.1) r.2) (from_round k os o i)

  module _ (os : List ℕ) where
    abbrev test : ℕ → ℕ → Bool
    test k o = list_any (λ p. p == o) (reached_by w k os)

    abbrev tests : ℕ → ℕ
    tests k = count_below (length w.objects) (test k)

    grows : (k o : ℕ) → test k o ≡ true → test (suc k) o ≡ true
    grows k o e = in_found o (reached_by w (suc k) os) (more k os o (found_in o (reached_by w k os) e))

    settled : (k : ℕ) → IsSameBelow (length w.objects) (test k) (test (suc k)) ⊎ (k < tests (suc k))
    settled zero = go (same_or_more (length w.objects) (test 0) (test 1) (grows 0))
      where
        go : (IsSameBelow (length w.objects) (test 0) (test 1) × (tests 0 ≤ tests 1)) ⊎ (tests 0 < tests 1)
            → IsSameBelow (length w.objects) (test 0) (test 1) ⊎ (0 < tests 1)
        go (inl r) = inl r.0
        go (inr less) = inr (omega (arith, less))
    settled (suc k) = go (settled k)
      where
        still : IsSameBelow (length w.objects) (test k) (test (suc k))
            → IsSameBelow (length w.objects) (test (suc k)) (test (suc (suc k)))
        still same o small e = in_found o (reached_by w (suc k) os)
            (here (from_round (suc k) os o (found_in o (reached_by w (suc (suc k)) os) e)))
          where
            here : IsIn o os ⊎ ((a : ℕ) × IsIn a (reached_by w (suc k) os) × IsIn o (named a))
                → IsIn o (reached_by w (suc k) os)
            here (inl j) = begins (suc k) os o j
            here (inr r) =
                let low = standing_below w.objects r.0 (names_stand r.0 o r.2) in
                let was = same r.0 low (in_found r.0 (reached_by w (suc k) os) r.1) in
                next k os r.0 o (found_in r.0 (reached_by w k os) was) r.2

        grown : k < tests (suc k)
            → (IsSameBelow (length w.objects) (test (suc k)) (test (suc (suc k)))
            × (tests (suc k) ≤ tests (suc (suc k))))
            ⊎ (tests (suc k) < tests (suc (suc k)))
            → IsSameBelow (length w.objects) (test (suc k)) (test (suc (suc k))) ⊎ (suc k < tests (suc (suc k)))
        grown less (inl r) = inl r.0
        grown less (inr l) = inr (omega (arith, less, l))

        go : IsSameBelow (length w.objects) (test k) (test (suc k)) ⊎ (k < tests (suc k))
            → IsSameBelow (length w.objects) (test (suc k)) (test (suc (suc k))) ⊎ (suc k < tests (suc (suc k)))
        go (inl same) = inl (still same)
        go (inr less) = grown less (same_or_more (length w.objects) (test (suc k)) (test (suc (suc k))) (grows (suc k)))

    -- after as many rounds nothing new is found
    pub closed : (a o : ℕ) → IsIn a (reached_by w (length w.objects) os) → IsIn o (named a) → o < length w.objects
        → IsIn o (reached_by w (length w.objects) os)
    closed a o i e small = go (settled (length w.objects))
      where
        n : ℕ
        n = length w.objects

        go : IsSameBelow n (test n) (test (suc n)) ⊎ (n < tests (suc n)) → IsIn o (reached_by w n os)
        go (inl same) = found_in o (reached_by w n os)
            (same o small (in_found o (reached_by w (suc n) os) (next n os a o i e)))
        go (inr less) = absurd (let most = count_bound n (test (suc n)) in omega (arith, less, most))

    pub roots_found : (o : ℕ) → IsIn o os → IsIn o (reached_by w (length w.objects) os)
    roots_found o i = begins (length w.objects) os o i
