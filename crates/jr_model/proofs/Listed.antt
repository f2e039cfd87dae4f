-- Tests of lists, and of the numbers below a bound, and what they decide.
use Rattle.std.proofs.Common.{◌≡◌, ◌≢◌, ◌⊎◌, inl, inr, ⊎_elim, ℕ, zero, suc, ◌+◌, ◌<◌, ◌≤◌, ◌==◌, Bool}
use Rattle.std.proofs.Common.{true, false, not, cond, ◌&&◌, ◌||◌, Option, Some, None, List, [], ◌∷◌}
use Rattle.std.proofs.Common.{length, slice_get, refl, sym, ap, subst, ◌∙◌, arith, nat_eq, Decides}
use Rattle.std.specs.List.{filter, list_any, list_all}
use Rattle.std.proofs.lemmas.Bool.{or_cases, cases_lt}
use Rattle.std.proofs.lemmas.Bool.Decides.{Decides-like, Decides-and, Decides-or}
use Rattle.std.proofs.lemmas.Bool.Decides.{Decides-eqb, Decides-below_and, Decides-below_or}
use Rattle.jr_model.specs.Maps.{sum_below, count_below}
use Rattle.jr_model.specs.Decided.{below}
use Rattle.jr_model.proofs.Counts.{bit, count_all_false, count_single}
use Rattle.jr_model.proofs.Updates.{eq_self, eq_other, eq_true}

-- a test and what it decides, under a condition
pub implies : {P Q : Type 0} (a b : Bool) → Decides a P → Decides b Q → Decides (not a || b) (P → Q)
implies true b d k = (λ e p. k.0 e, λ f. k.1 (f (d.0 refl)))
implies false b d k = (λ e p. absurd (let never = d.1 p in cc), λ f. refl)

pub unless : {P Q : Type 0} (a b : Bool) → Decides a P → Decides b Q → Decides (a || b) ((P → ⊥) → Q)
unless true b d k = (λ e n. absurd (n (d.0 refl)), λ f. refl)
unless false b d k = (λ e n. k.0 e, λ f. k.1 (f (λ p. let never = d.1 p in cc)))

pub three : {P Q R : Type 0} (a b c : Bool) → Decides a P → Decides b Q → Decides c R
    → Decides (a && b && c) (P × Q × R)
three a b c p q r = Decides-like (a && b && c) (λ h. (h.0.0, h.0.1, h.1)) (λ h. ((h.0, h.1), h.2))
    (Decides-and (a && b) c (Decides-and a b p q) r)

pub four : {P Q R S : Type 0} (a b c d : Bool) → Decides a P → Decides b Q → Decides c R → Decides d S
    → Decides (a && b && c && d) (P × Q × R × S)
four a b c d p q r s = Decides-like (a && b && c && d) (λ h. (h.0.0, h.0.1, h.0.2, h.1)) (λ h. ((h.0, h.1, h.2), h.3))
    (Decides-and (a && b && c) d (three a b c p q r) s)

-- what is true as it stands
pub itself : (b : Bool) → Decides b (b ≡ true)
itself b = (λ e. e, λ e. e)

module _ {A : Type 0} (same : A → A → Bool) (is : (x y : A) → Decides (same x y) (x ≡ y)) {P : A → Type 0}
    (p : A → Bool) (each : (x : A) → Decides (p x) (P x)) where
  -- an element of the list has it
  abbrev HasOne : List A → Type 0
  HasOne xs = (x : A) × (list_any (same x) xs ≡ true) × P x

  pub any_of : (xs : List A) → Decides (list_any p xs) (HasOne xs)
  any_of [] = (λ e. absurd cc, λ h. absurd (let none = h.1 in cc))
  any_of (y ∷ ys) =
      Decides-like (p y || list_any p ys) here there (Decides-or (p y) (list_any p ys) (each y) (any_of ys))
    where
      here : P y ⊎ HasOne ys → HasOne (y ∷ ys)
      here (inl h) = (y, rw ((is y y).1 refl) refl, h)
      here (inr h) = (h.0, (Decides-or (same h.0 y) (list_any (same h.0) ys) (itself _) (itself _)).1 (inr h.1), h.2)

      there : HasOne (y ∷ ys) → P y ⊎ HasOne ys
      there h = ⊎_elim (λ e. inl (subst P ((is h.0 y).0 e) h.2)) (λ e. inr (h.0, e, h.2))
          (or_cases (same h.0 y) (list_any (same h.0) ys) h.1)

-- some element of the list, at its index
pub any_at : (o : ℕ) (xs : List ℕ) → Decides (list_any (nat_eq o) xs) ((i : ℕ) × (slice_get xs i ≡ Some o))
any_at o [] = (λ e. absurd cc, λ h. absurd (let none = h.1 in cc))
any_at o (x ∷ xs) = Decides-like (o == x || list_any (nat_eq o) xs) here (λ h. there h.0 h.1)
    (Decides-or (o == x) (list_any (nat_eq o) xs) (Decides-eqb o x) (any_at o xs))
  where
    here : (o ≡ x) ⊎ ((i : ℕ) × (slice_get xs i ≡ Some o)) → (i : ℕ) × (slice_get (x ∷ xs) i ≡ Some o)
    here (inl e) = (0, ap Some (sym e))
    here (inr h) = (suc h.0, h.1)

    there : (i : ℕ) → slice_get (x ∷ xs) i ≡ Some o → (o ≡ x) ⊎ ((i : ℕ) × (slice_get xs i ≡ Some o))
    there zero e = inl cc
    there (suc i) e = inr (i, e)

-- each element of the list, by its index
pub all_at : {P : ℕ → Type 0} (p : ℕ → Bool) → ((v : ℕ) → Decides (p v) (P v)) → (xs : List ℕ)
    → Decides (list_all p xs) ((i v : ℕ) → slice_get xs i ≡ Some v → P v)
all_at p each [] = (λ e i v h. absurd cc, λ f. refl)
all_at {P} p each (x ∷ xs) =
    Decides-like (p x && list_all p xs) (λ h i v. here h i v) (λ f. (f 0 x refl, λ i v. f (suc i) v))
    (Decides-and (p x) (list_all p xs) (each x) (all_at p each xs))
  where
    here : P x × ((i v : ℕ) → slice_get xs i ≡ Some v → P v) → (i v : ℕ) → slice_get (x ∷ xs) i ≡ Some v → P v
    here h zero v e = let is : x ≡ v = cc in subst P is h.0
    here h (suc i) v e = h.1 i v e

-- what stands there passes a test of its own
pub some_of : {A : Type 0} {Q : A → Type 0} (f : Option A → Bool) → f None ≡ false
    → ((x : A) → Decides (f (Some x)) (Q x))
    → (m : Option A) → Decides (f m) ((x : A) × (m ≡ Some x) × Q x)
some_of f none each None = (λ e. absurd (let never = none in cc), λ h. absurd (let never = h.1 in cc))
some_of {A} {Q} f none each (Some y) = Decides-like (f (Some y)) (λ q. (y, refl, q))
    (λ h. let is : y ≡ h.0 = let e = h.1 in cc in subst Q (sym is) h.2) (each y)

module _ {P : ℕ → Type 0} (p : ℕ → Bool) (each : (k : ℕ) → Decides (p k) (P k)) where
  pub any_below : (n : ℕ) → Decides (list_any p (below n)) ((k : ℕ) × (k < n) × P k)
  any_below = Decides-below_or p P (λ n. list_any p (below n)) each refl (λ n. refl)

  pub all_below : (n : ℕ) → Decides (list_all p (below n)) ((k : ℕ) → k < n → P k)
  all_below = Decides-below_and p P (λ n. list_all p (below n)) each refl (λ n. refl)

-- the numbers below n that pass
abbrev pub passing : (ℕ → Bool) → ℕ → List ℕ
passing p n = filter p (below n)

pub passing_is : (p : ℕ → Bool) (o n : ℕ) → Decides (list_any (nat_eq o) (passing p n)) ((o < n) × (p o ≡ true))
passing_is p o zero = (λ e. absurd cc, λ h. let none = h.0 in absurd (omega arith))
passing_is p o (suc n) = go (p n) refl (passing_is p o n)
  where
    go : (b : Bool) → p n ≡ b → Decides (list_any (nat_eq o) (passing p n)) ((o < n) × (p o ≡ true))
        → Decides (list_any (nat_eq o) (cond b (n ∷ passing p n) (passing p n))) ((o < suc n) × (p o ≡ true))
    go true here d = Decides-like (o == n || list_any (nat_eq o) (passing p n))
        (⊎_elim (λ e. (omega arith, ap p e ∙ here)) (λ h. let l = h.0 in (omega arith, h.1)))
        (λ h. back (o == n) refl h.0 h.1)
        (Decides-or (o == n) (list_any (nat_eq o) (passing p n)) (Decides-eqb o n) d)
      where
        back : (b : Bool) → (o == n) ≡ b → o < suc n → p o ≡ true → (o ≡ n) ⊎ ((o < n) × (p o ≡ true))
        back true e l passes = inl (eq_true o n e)
        back false e l passes =
            let apart : o ≢ n = λ is. let same = (Decides-eqb o n).1 is in cc in inr (omega arith, passes)
    go false here d =
        Decides-like (list_any (nat_eq o) (passing p n)) (λ h. let l = h.0 in (omega arith, h.1)) below_n d
      where
        below_n : (o < suc n) × (p o ≡ true) → (o < n) × (p o ≡ true)
        below_n h =
            let apart : o ≢ n = λ is. let passes = sym h.1 ∙ (ap p is ∙ here) in cc in let l = h.0 in (omega arith, h.1)

pub passing_fits : (p : ℕ → Bool) (n : ℕ) → length (passing p n) ≤ n
passing_fits p zero = omega arith
passing_fits p (suc n) = go (p n) (passing_fits p n)
  where
    go : (b : Bool) → length (passing p n) ≤ n → length (cond b (n ∷ passing p n) (passing p n)) ≤ suc n
    go true l = omega arith
    go false l = omega arith

-- both lists are one, or the second is longer
abbrev pub IsSameOrLonger : List ℕ → List ℕ → Type 0
IsSameOrLonger xs ys = (xs ≡ ys) ⊎ (length xs < length ys)

-- where a test passes wherever another does, the same numbers pass or more
pub passing_grows : (p q : ℕ → Bool) (n : ℕ) → ((k : ℕ) → k < n → p k ≡ true → q k ≡ true)
    → IsSameOrLonger (passing p n) (passing q n)
passing_grows p q zero more = inl refl
passing_grows p q (suc n) more =
    go (p n) (q n) (more n (omega arith)) (passing_grows p q n (λ k l. more k (omega arith)))
  where
    go : (a b : Bool) → (a ≡ true → b ≡ true) → IsSameOrLonger (passing p n) (passing q n)
        → IsSameOrLonger (cond a (n ∷ passing p n) (passing p n)) (cond b (n ∷ passing q n) (passing q n))
    go true true m (inl e) = inl (ap (λ xs. n ∷ xs) e)
    go true true m (inr l) = inr (omega arith)
    go true false m h = absurd (let never = m refl in cc)
    go false true m (inl e) = inr (let same = ap (λ (xs : List ℕ). length xs) e in omega arith)
    go false true m (inr l) = inr (omega arith)
    go false false m h = h

count_or : (m : ℕ) (p q : ℕ → Bool) → count_below m (λ n. p n || q n) ≤ count_below m p + count_below m q
unfolding sum_below
count_or zero p q = omega arith
count_or (suc m) p q = go (p m) (q m) (count_or m p q)
  where
    go : (a b : Bool) → count_below m (λ n. p n || q n) ≤ count_below m p + count_below m q
        → count_below m (λ n. p n || q n) + bit (a || b) ≤ count_below m p + bit a + (count_below m q + bit b)
    go true true l = omega arith
    go true false l = omega arith
    go false true l = omega arith
    go false false l = omega arith

-- at most one number is one that is given
count_hit : (m : ℕ) (b : Bool) (k : ℕ) → count_below m (λ n. b && (k == n)) ≤ 1
count_hit m false k = let none = count_all_false m (λ n. false) (λ n l. refl) in omega arith
count_hit m true k = ⊎_elim
    (λ l. let one = count_single m (λ n. k == n) k l (eq_self k) (λ j ne. eq_other k j ne) in omega arith)
    (λ l. let none = count_all_false m (λ n. k == n) (λ j l'. eq_other k j (λ e. absurd (omega arith))) in omega arith)
    (cases_lt k m)

count_all : (m : ℕ) (p : ℕ → Bool) → ((n : ℕ) → n < m → p n ≡ true) → count_below m p ≡ m
unfolding sum_below
count_all zero p all = refl
count_all (suc m) p all =
    let rest = count_all m p (λ n l. all n (omega arith)) in
    let here : bit (p m) ≡ 1 = ap bit (all m (omega arith)) in
    omega arith

-- where each element hits at most one number, no more numbers are hit than there are elements
pub hits_are_few : {A : Type 0} (b : A → Bool) (key : A → ℕ) (xs : List A) (m : ℕ)
    → ((n : ℕ) → n < m → list_any (λ x. b x && (key x == n)) xs ≡ true) → m ≤ length xs
hits_are_few {A} b key xs m all =
    let whole = count_all m (λ n. list_any (λ x. b x && (key x == n)) xs) all in let most = few xs in omega arith
  where
    few : (xs : List A) → count_below m (λ n. list_any (λ x. b x && (key x == n)) xs) ≤ length xs
    few [] = let none = count_all_false m (λ n. false) (λ n l. refl) in omega arith
    few (x ∷ xs) =
        let rest = few xs in
        let hit = count_hit m (b x) (key x) in
        let both = count_or m (λ n. b x && (key x == n)) (λ n. list_any (λ x. b x && (key x == n)) xs) in
        omega arith
