-- Lists in order become one, in order.
use Rattle.std.proofs.Common.{◌≡◌, ◌⊎◌, inl, inr, ◌<◌, ◌≤◌, ◌==◌, ◌+◌, ℕ, zero, suc, cond, List, [], ◌∷◌, ◌++◌, get_or}
use Rattle.std.proofs.Common.{refl, ap, ◌∙◌, arith, ne_eqb}
use Rattle.std.specs.List.{AllByRecursion}
use Rattle.std.proofs.lemmas.Bool.{cases_lt}
use Rattle.one_order.specs.Orders.{done_by}
use Rattle.one_order.proofs.Lists.{all_weaker, all_append, none_chosen, tagged, done_tagged, done_by_others}

-- when something is done: so much of the history was seen by then, and behind that it stands so far back
pub record Time : Type 0 where
  pub at : ℕ
  pub sub : ℕ

-- x is not later than y
abbrev pub Le : Time → Time → Type 0
Le x y = (x.at < y.at) ⊎ (x.at ≡ y.at) × (x.sub ≤ y.sub)

pub le_same : (x : Time) → Le x x
le_same x = inr (refl, omega arith)

pub le_then : (x y z : Time) → Le x y → Le y z → Le x z
le_then x y z (inl a) (inl b) = inl (omega arith)
le_then x y z (inl a) (inr b) = inl (let c = b.0 in omega arith)
le_then x y z (inr a) (inl b) = inl (let c = a.0 in omega arith)
le_then x y z (inr a) (inr b) = inr (a.0 ∙ b.0, (let c = a.1 in let d = b.1 in omega arith))

le_either : (x y : Time) → Le x y ⊎ Le y x
le_either x y = go (cases_lt x.at y.at) (cases_lt y.at x.at) (cases_lt y.sub x.sub)
  where
    go : (x.at < y.at) ⊎ (y.at ≤ x.at) → (y.at < x.at) ⊎ (x.at ≤ y.at) → (y.sub < x.sub) ⊎ (x.sub ≤ y.sub)
        → Le x y ⊎ Le y x
    go (inl a) b c = inl (inl a)
    go (inr a) (inl b) c = inr (inl b)
    go (inr a) (inr b) (inl c) = inr (inr (omega arith, omega arith))
    go (inr a) (inr b) (inr c) = inl (inr (omega arith, c))

module _ {X : Type 0} (when : X → Time) where
  -- each is no later than those behind it
  abbrev pub AreInOrder : List X → Type 0
  AreInOrder [] = Unit {0}
  AreInOrder (x ∷ xs) = AllByRecursion (λ y. Le (when x) (when y)) xs × AreInOrder xs

  -- those of two lists, each in its order
  data Joins : List X → List X → List X → Type 0 where
    none : Joins [] [] []
    left : {xs ys zs : List X} (x : X) → Joins xs ys zs → Joins (x ∷ xs) ys (x ∷ zs)
    right : {xs ys zs : List X} (y : X) → Joins xs ys zs → Joins xs (y ∷ ys) (y ∷ zs)

  record Joined (xs ys : List X) : Type 0 where
    pub all : List X
    pub joins : Joins xs ys all
    pub in_order : AreInOrder all

  all_joined : (P : X → Type 0) {xs ys zs : List X} → Joins xs ys zs → AllByRecursion P xs → AllByRecursion P ys
      → AllByRecursion P zs
  all_joined P none a b = tt
  all_joined P (left x j) a b = (a.0, all_joined P j a.1 b)
  all_joined P (right y j) a b = (b.0, all_joined P j a b.1)

  rights : (ys : List X) → Joins [] ys ys
  rights [] = none
  rights (y ∷ ys) = right y (rights ys)

  left_first : (x : X) (xs ys : List X) → AllByRecursion (λ y. Le (when x) (when y)) xs
      → AllByRecursion (λ y. Le (when x) (when y)) ys → Joined xs ys → Joined (x ∷ xs) ys
  left_first x xs ys a b j = record {
    all = x ∷ j.all;
    joins = left x j.joins;
    in_order = (all_joined (λ y. Le (when x) (when y)) j.joins a b, j.in_order);
  }

  right_first : (y : X) (xs ys : List X) → AllByRecursion (λ z. Le (when y) (when z)) xs
      → AllByRecursion (λ z. Le (when y) (when z)) ys → Joined xs ys → Joined xs (y ∷ ys)
  right_first y xs ys a b j = record {
    all = y ∷ j.all;
    joins = right y j.joins;
    in_order = (all_joined (λ z. Le (when y) (when z)) j.joins a b, j.in_order);
  }

  behind : (x y : X) (ys : List X) → Le (when x) (when y) → AllByRecursion (λ z. Le (when y) (when z)) ys
      → AllByRecursion (λ z. Le (when x) (when z)) ys
  behind x y ys a b = all_weaker (λ z h. le_then (when x) (when y) (when z) a h) ys b

  into : (x : X) (xs : List X) → AllByRecursion (λ y. Le (when x) (when y)) xs
      → ((ys : List X) → AreInOrder ys → Joined xs ys) → (ys : List X) → AreInOrder ys → Joined (x ∷ xs) ys
  into x xs least rest [] b = left_first x xs [] least tt (rest [] tt)
  into x xs least rest (y ∷ ys) b = go (le_either (when x) (when y)) (into x xs least rest ys b.1)
    where
      go : Le (when x) (when y) ⊎ Le (when y) (when x) → Joined (x ∷ xs) ys → Joined (x ∷ xs) (y ∷ ys)
      go (inl h) j = left_first x xs (y ∷ ys) least (h, behind x y ys h b.0) (rest (y ∷ ys) b)
      go (inr h) j = right_first y (x ∷ xs) ys (h, behind y x xs h least) b.0 j

  -- TWO LISTS IN ORDER BECOME ONE
  joined : (xs ys : List X) → AreInOrder xs → AreInOrder ys → Joined xs ys
  joined [] ys a b = record { all = ys; joins = rights ys; in_order = b }
  joined (x ∷ xs) ys a b = into x xs a.0 (λ zs c. joined xs zs a.1 c) ys b

  -- one list behind the other, where a time lies between
  pub order_append : (b : Time) (xs ys : List X) → AreInOrder xs → AreInOrder ys
      → AllByRecursion (λ x. Le (when x) b) xs
      → AllByRecursion (λ y. Le b (when y)) ys → AreInOrder (xs ++ ys)
  order_append b [] ys p q l m = q
  order_append b (x ∷ xs) ys p q l m = (
    all_append (λ z. Le (when x) (when z)) xs ys p.0 (all_weaker (λ y h. le_then (when x) b (when y) l.0 h) ys m),
    order_append b xs ys p.1 q l.1 m,
  )

module _ {X : Type 0} (when : ℕ × X → Time) where
  -- a list none of which is t's adds nothing of t's
  done_left : {xs ys zs : List (ℕ × X)} (t : ℕ) → Joins when xs ys zs → done_by ys t ≡ []
      → done_by zs t ≡ done_by xs t
  done_left t none e = refl
  done_left t (left {xs = xs} {zs = zs} x j) e = ap (λ l. cond (x.0 == t) (x.1 ∷ l) l) (done_left t j e)
  done_left t (right {xs = xs} {ys = ys} {zs = zs} y j) e =
      let d = none_chosen (y.0 == t) y.1 (done_by ys t) e in
      ap (λ b. cond b (y.1 ∷ done_by zs t) (done_by zs t)) d.0 ∙ done_left t j d.1

  done_right : {xs ys zs : List (ℕ × X)} (t : ℕ) → Joins when xs ys zs → done_by xs t ≡ []
      → done_by zs t ≡ done_by ys t
  done_right t none e = refl
  done_right t (right {ys = ys} {zs = zs} y j) e = ap (λ l. cond (y.0 == t) (y.1 ∷ l) l) (done_right t j e)
  done_right t (left {xs = xs} {ys = ys} {zs = zs} x j) e =
      let d = none_chosen (x.0 == t) x.1 (done_by xs t) e in
      ap (λ b. cond b (x.1 ∷ done_by zs t) (done_by zs t)) d.0 ∙ done_right t j d.1

  -- what threads do from t on, as one list
  pub record Gathered (P : ℕ × X → Type 0) (t : ℕ) (lists : List (List X)) : Type 0 where
    pub all : List (ℕ × X)
    pub in_order : AreInOrder when all
    pub each : (i : ℕ) → done_by all (t + i) ≡ get_or lists i []
    pub none_before : (u : ℕ) → u < t → done_by all u ≡ []
    pub right : AllByRecursion P all

  -- of each list of them, the first of which is t's
  abbrev pub Each : (ℕ → List X → Type 0) → ℕ → List (List X) → Type 0
  Each Q t [] = Unit {0}
  Each Q t (l ∷ ls) = Q t l × Each Q (suc t) ls

  abbrev pub IsReady : (ℕ × X → Type 0) → ℕ → List X → Type 0
  IsReady P t l = AreInOrder when (tagged t l) × AllByRecursion P (tagged t l)

  pub gathered : (P : ℕ × X → Type 0) (t : ℕ) (lists : List (List X)) → Each (IsReady P) t lists → Gathered P t lists
  gathered P t [] h = record { all = []; in_order = tt; each = λ i. refl; none_before = λ u l. refl; right = tt }
  gathered P t (l ∷ ls) h = go (gathered P (suc t) ls h.1)
    where
      go : Gathered P (suc t) ls → Gathered P t (l ∷ ls)
      go g =
          let j = joined when (tagged t l) g.all h.0.0 g.in_order in record {
            all = j.all;
            in_order = j.in_order;
            each = own g j;
            none_before = λ u less. done_left u j.joins (g.none_before u (omega arith))
                ∙ done_by_others t u l (ne_eqb t u (λ e. omega arith));
            right = all_joined when P j.joins h.0.1 g.right;
          }
        where
          own : (g : Gathered P (suc t) ls) (j : Joined when (tagged t l) g.all) (i : ℕ)
              → done_by j.all (t + i) ≡ get_or (l ∷ ls) i []
          own g j zero =
              let same : t + zero ≡ t = omega arith in
              ap (done_by j.all) same ∙ (done_left t j.joins (g.none_before t (omega arith)) ∙ done_tagged t l)
          own g j (suc i) =
              let same : t + suc i ≡ suc t + i = omega arith in
              done_right (t + suc i) j.joins (done_by_others t (t + suc i) l (ne_eqb t (t + suc i) (λ e. omega arith)))
              ∙ (ap (done_by g.all) same ∙ g.each i)
