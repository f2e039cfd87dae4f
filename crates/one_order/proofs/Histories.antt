-- The acts of all, in the order of their times, are the history.
use Rattle.std.proofs.Common.{◌≡◌, inl, inr, ◌<◌, ◌≤◌, ◌==◌, ◌+◌, ℕ, suc, Bool, true, false, cond, List, [], ◌∷◌, map}
use Rattle.std.proofs.Common.{length, refl, sym, ap, subst, ◌∙◌, arith, eq-eqb, ne_eqb}
use Rattle.std.proofs.lemmas.Bool.{eqb-true, eqb-false}
use Rattle.std.specs.List.{AllByRecursion}
use Rattle.one_order.specs.Orders.{done_by, Item, act_before, acts_of}
use Rattle.one_order.specs.Orders.Item.{does, posts, hears}
use Rattle.one_order.proofs.Lists.{all_done, done_here, done_elsewhere, done_by_no_one}
use Rattle.one_order.proofs.Merging.{Time, Le, AreInOrder}
use Rattle.one_order.proofs.Timing.{Timed, acts_in, placed, placed_from}

-- ACTS IN THE ORDER OF THEIR PLACES, of which each thread has just its own of a history, are that history

-- each is at no later place than those behind it
abbrev AreRising : {A : Type 0} → List (ℕ × (ℕ × A)) → Type 0
AreRising [] = Unit {0}
AreRising (x ∷ xs) = AllByRecursion (λ y. x.1.0 ≤ y.1.0) xs × AreRising xs

pub same_first : {X : Type 0} (x y : X) (xs ys : List X) → x ∷ xs ≡ y ∷ ys → (x ≡ y) × (xs ≡ ys)
same_first x y xs ys e = (cc, cc)

-- behind one and the same the rest is the same
rest_same : {X : Type 0} (b : Bool) (x : X) (xs ys : List X) → cond b (x ∷ xs) xs ≡ cond b (x ∷ ys) ys → xs ≡ ys
rest_same true x xs ys e = cc
rest_same false x xs ys e = e

too_high : (j k : ℕ) → j ≤ k → suc k ≤ j → ⊥
too_high j k a b = omega arith

pub is_placed : {A : Type 0} (k : ℕ) (es : List (ℕ × A)) (xs : List (ℕ × (ℕ × A))) → AreRising xs
    → ((t : ℕ) → done_by xs t ≡ done_by (placed k es) t) → xs ≡ placed k es
is_placed k [] xs r h = done_by_no_one xs h
is_placed k (e ∷ es) [] r h = absurd (
    let bad = h e.0 ∙ done_here e.0 (e.0, (k, e.1)) (placed (suc k) es) (eq-eqb e.0 e.0 refl) in cc)
is_placed {A} k (e ∷ es) (x ∷ xs) r h = go (x.0 == e.0) refl (λ g. is_placed (suc k) es xs r.1 g)
  where
    first : ℕ × (ℕ × A)
    first = (e.0, (k, e.1))

    rest : List (ℕ × (ℕ × A))
    rest = placed (suc k) es

    -- the history's first act is its thread's first
    of_first : done_by (x ∷ xs) e.0 ≡ (k, e.1) ∷ done_by rest e.0
    of_first = h e.0 ∙ done_here e.0 first rest (eq-eqb e.0 e.0 refl)

    go : (b : Bool) → (x.0 == e.0) ≡ b → (((t : ℕ) → done_by xs t ≡ done_by rest t) → xs ≡ rest)
        → x ∷ xs ≡ first ∷ rest
    go true is next =
        let two : x.1 ∷ done_by xs e.0 ≡ (k, e.1) ∷ done_by rest e.0 = sym (done_here e.0 x xs is) ∙ of_first in
        let what : x.1 ≡ (k, e.1) = (same_first x.1 (k, e.1) (done_by xs e.0) (done_by rest e.0) two).0 in
        let all : x ≡ first = ap (λ z. (z, x.1)) (eqb-true x.0 e.0 is) ∙ ap (λ z. (e.0, z)) what in
        let same : (t : ℕ) → done_by xs t ≡ done_by rest t =
        λ t. rest_same (e.0 == t) (k, e.1) (done_by xs t) (done_by rest t)
        (ap (λ z. cond (z.0 == t) (z.1 ∷ done_by xs t) (done_by xs t)) (sym all) ∙ h t) in
        ap (λ z. z ∷ xs) all ∙ ap (λ l. first ∷ l) (next same)
    go false is next = absurd (
        let mine : done_by xs e.0 ≡ (k, e.1) ∷ done_by rest e.0 = sym (done_elsewhere e.0 x xs is) ∙ of_first in
        let low : AllByRecursion (λ y. x.1.0 ≤ y.0) (done_by xs e.0) = all_done (λ y. x.1.0 ≤ y.0) xs e.0 r.0 in
        let first_low = (subst (AllByRecursion (λ y. x.1.0 ≤ y.0)) mine low).0 in
        let apart : (e.0 == x.0) ≡ false = ne_eqb e.0 x.0 (λ s. eqb-false x.0 e.0 is (sym s)) in
        let theirs : x.1 ∷ done_by xs x.0 ≡ done_by rest x.0 =
        sym (done_here x.0 x xs (eq-eqb x.0 x.0 refl)) ∙ (h x.0 ∙ done_elsewhere x.0 first rest apart) in
        let high = (subst (AllByRecursion (λ p. (suc k ≤ p.0) × (p.0 < suc k + length es))) (sym theirs)
        (placed_from (suc k) es x.0)).0 in
        too_high x.1.0 k first_low high.0)

-- THE ACTS OF ALL TIMED THINGS, each with its place

-- thread t's item before these acts: an act has this place
abbrev act_at : {A : Type 0} → ℕ → ℕ → Item A → List (ℕ × (ℕ × A)) → List (ℕ × (ℕ × A))
act_at t k (does a) es = (t, (k, a)) ∷ es
act_at t k _ es = es

abbrev pub acts_placed : {A : Type 0} → List (ℕ × Timed A) → List (ℕ × (ℕ × A))
acts_placed [] = []
acts_placed (x ∷ xs) = act_at x.0 x.1.time.at x.1.item (acts_placed xs)

act_done : {A : Type 0} (u t : ℕ) (m : Time) (i : Item A) (es : List (ℕ × (ℕ × A))) (xs : List (Timed A))
    → done_by es t ≡ acts_in xs
    → done_by (act_at u m.at i es) t ≡ acts_in (cond (u == t) (record { time = m; item = i } ∷ xs) xs)
act_done u t m (does a) es xs h = go (u == t)
  where
    go : (b : Bool) → cond b ((m.at, a) ∷ done_by es t) (done_by es t)
        ≡ acts_in (cond b (record { time = m; item = does a } ∷ xs) xs)
    go true = ap (λ l. (m.at, a) ∷ l) h
    go false = h
act_done u t m (posts n w) es xs h = go (u == t)
  where
    go : (b : Bool) → done_by es t ≡ acts_in (cond b (record { time = m; item = posts n w } ∷ xs) xs)
    go true = h
    go false = h
act_done u t m (hears n w) es xs h = go (u == t)
  where
    go : (b : Bool) → done_by es t ≡ acts_in (cond b (record { time = m; item = hears n w } ∷ xs) xs)
    go true = h
    go false = h

pub acts_done : {A : Type 0} (xs : List (ℕ × Timed A)) (t : ℕ) → done_by (acts_placed xs) t ≡ acts_in (done_by xs t)
acts_done [] t = refl
acts_done (x ∷ xs) t = act_done x.0 t x.1.time x.1.item (acts_placed xs) (done_by xs t) (acts_done xs t)

all_act_at : {A : Type 0} (P : ℕ × (ℕ × A) → Type 0) (t k : ℕ) (i : Item A) (es : List (ℕ × (ℕ × A)))
    → ((a : A) → P (t, (k, a))) → AllByRecursion P es → AllByRecursion P (act_at t k i es)
all_act_at P t k (does a) es p h = (p a, h)
all_act_at P t k (posts n w) es p h = h
all_act_at P t k (hears n w) es p h = h

not_before : (x y : Time) → Le x y → x.at ≤ y.at
not_before x y (inl a) = omega arith
not_before x y (inr a) = let b = a.0 in omega arith

acts_from : {A : Type 0} (m : Time) (xs : List (ℕ × Timed A)) → AllByRecursion (λ y. Le m y.1.time) xs
    → AllByRecursion (λ y. m.at ≤ y.1.0) (acts_placed xs)
acts_from m [] h = tt
acts_from m (x ∷ xs) h = all_act_at (λ y. m.at ≤ y.1.0) x.0 x.1.time.at x.1.item (acts_placed xs)
    (λ a. not_before m x.1.time h.0) (acts_from m xs h.1)

act_rises : {A : Type 0} (t k : ℕ) (i : Item A) (es : List (ℕ × (ℕ × A))) → AllByRecursion (λ y. k ≤ y.1.0) es
    → AreRising es → AreRising (act_at t k i es)
act_rises t k (does a) es h r = (h, r)
act_rises t k (posts n w) es h r = r
act_rises t k (hears n w) es h r = r

pub acts_rise : {A : Type 0} (xs : List (ℕ × Timed A)) → AreInOrder (λ x. x.1.time) xs → AreRising (acts_placed xs)
acts_rise [] h = tt
acts_rise (x ∷ xs) h =
    act_rises x.0 x.1.time.at x.1.item (acts_placed xs) (acts_from x.1.time xs h.0) (acts_rise xs h.1)

-- WITHOUT TIMES AND PLACES

abbrev pub untimed : {A : Type 0} → ℕ × Timed A → ℕ × Item A
untimed x = (x.0, x.1.item)

abbrev pub unplaced : {A : Type 0} → ℕ × (ℕ × A) → ℕ × A
unplaced x = (x.0, x.1.1)

act_unplaced : {A : Type 0} (t k : ℕ) (i : Item A) (es : List (ℕ × (ℕ × A)))
    → map unplaced (act_at t k i es) ≡ act_before t i (map unplaced es)
act_unplaced t k (does a) es = refl
act_unplaced t k (posts n w) es = refl
act_unplaced t k (hears n w) es = refl

pub acts_untimed : {A : Type 0} (xs : List (ℕ × Timed A))
    → acts_of (map untimed xs) ≡ map unplaced (acts_placed xs)
acts_untimed [] = refl
acts_untimed (x ∷ xs) = ap (act_before x.0 x.1.item) (acts_untimed xs)
    ∙ sym (act_unplaced x.0 x.1.time.at x.1.item (acts_placed xs))

pub placed_unplaced : {A : Type 0} (k : ℕ) (es : List (ℕ × A)) → map unplaced (placed k es) ≡ es
placed_unplaced k [] = refl
placed_unplaced k (e ∷ es) = ap (λ l. e ∷ l) (placed_unplaced (suc k) es)

choice_map : {X Y : Type 0} (f : X → Y) (b : Bool) (x : X) (xs : List X) (ys : List Y) → ys ≡ map f xs
    → cond b (f x ∷ ys) ys ≡ map f (cond b (x ∷ xs) xs)
choice_map f true x xs ys h = ap (λ l. f x ∷ l) h
choice_map f false x xs ys h = h

pub done_untimed : {A : Type 0} (xs : List (ℕ × Timed A)) (t : ℕ)
    → done_by (map untimed xs) t ≡ map (λ x. x.item) (done_by xs t)
done_untimed [] t = refl
done_untimed (x ∷ xs) t = choice_map (λ x. x.item) (x.0 == t) x.1 (done_by xs t) (done_by (map untimed xs) t)
    (done_untimed xs t)
