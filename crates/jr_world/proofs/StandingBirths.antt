-- As many births stand as objects are present.
use Rattle.std.proofs.Common.{◌≡◌, ◌≢◌, ℕ, zero, suc, ◌<◌, ◌≤◌, ◌+◌, ◌==◌, ◌&&◌, ◌||◌, Bool, true, false, nat_eq}
use Rattle.std.proofs.Common.{Option, Some, None, is_some, List, [], ◌∷◌, map, slice_get, refl, sym, ap, subst, ◌∙◌}
use Rattle.std.proofs.Common.{arith}
use Rattle.std.specs.List.{list_any}
use Rattle.jr_word.specs.declared.config.Config.{Config}
use Rattle.jr_word.specs.declared.kind.Kind.TheVariants.{Plain}
use Rattle.jr_model.specs.Maps.{update, sum_below, count_below}
use Rattle.jr_model.specs.State.{Contents, EachPresent}
use Rattle.jr_model.specs.History.{History, IsLegal, state}
use Rattle.jr_model.proofs.Counts.{bit, count_all_false, sum_at}
use Rattle.jr_model.proofs.InRoom.{present_is_in_room}
use Rattle.jr_model.proofs.Lengths.{sum_same}
use Rattle.jr_model.proofs.Updates.{at_number, at_number_self, eq_other, eq_self, eq_true}
use Rattle.jr_world.specs.World.{standing}
use Rattle.jr_world.specs.Births.{IsAs, births}

-- HOW MANY NUMBERS PASS

bit_most : (b : Bool) → bit b ≤ 1
bit_most true = omega arith
bit_most false = omega arith

most_below : (n : ℕ) (p : ℕ → Bool) → p 0 ≡ false → count_below (suc n) p ≤ n
unfolding sum_below
most_below zero p none = let z : bit (p 0) ≡ 0 = ap bit none in omega arith
most_below (suc n) p none =
    let rest : count_below (suc n) p ≤ n = most_below n p none in
    let last : bit (p (suc n)) ≤ 1 = bit_most (p (suc n)) in
    let whole : count_below (suc (suc n)) p ≡ count_below (suc n) p + bit (p (suc n)) = refl in
    omega arith

-- none passes at 0: at most all others do
pub count_most : (n : ℕ) (p : ℕ → Bool) → p 0 ≡ false → count_below (n + 1) p ≤ n
count_most n p none = subst (λ k. count_below k p ≤ n) (omega arith) (most_below n p none)

full_below : (n : ℕ) (p : ℕ → Bool) → p 0 ≡ false → ((o : ℕ) → 1 ≤ o → o ≤ n → p o ≡ true) → count_below (suc n) p ≡ n
unfolding sum_below
full_below zero p none all = let z : bit (p 0) ≡ 0 = ap bit none in omega arith
full_below (suc n) p none all =
    let rest : count_below (suc n) p ≡ n = full_below n p none (λ o least most. all o least (omega arith)) in
    let last : bit (p (suc n)) ≡ 1 = ap bit (all (suc n) (omega arith) (omega arith)) in
    let whole : count_below (suc (suc n)) p ≡ count_below (suc n) p + bit (p (suc n)) = refl in
    omega arith

-- all others pass
pub count_full : (n : ℕ) (p : ℕ → Bool) → p 0 ≡ false → ((o : ℕ) → 1 ≤ o → o ≤ n → p o ≡ true)
    → count_below (n + 1) p ≡ n
count_full n p none all = subst (λ k. count_below k p ≡ n) (omega arith) (full_below n p none all)

-- one more number has an object
pub count_more : (n : ℕ) (objects : ℕ → Option Contents) (o : ℕ) (x : Contents) → o < n → objects o ≡ None
    → count_below n (λ p. is_some (update nat_eq objects o (Some x) p)) ≡ count_below n (λ p. is_some (objects p)) + 1
count_more n objects o x small none =
    let e = sum_at n (λ p. bit (is_some (objects p))) (λ p. bit (is_some (update nat_eq objects o (Some x) p))) o small
    (λ j ne. at_number (λ y. bit (is_some y) ≡ bit (is_some (objects j))) objects o j (Some x) (λ e. absurd (ne e))
    (λ ne'. refl)) in
    let was : bit (is_some (objects o)) ≡ 0 = ap (λ y. bit (is_some y)) none in
    let is : bit (is_some (update nat_eq objects o (Some x) o)) ≡ 1 = ap (λ y. bit (is_some y))
    (at_number_self objects o (Some x)) in
    omega arith

-- THE NUMBERS OF STANDING BIRTHS

abbrev pub Born : Type 0
Born = List (ℕ × Option Contents)

-- a birth that stands has this number
abbrev pub is_born_as : ℕ → ℕ × Option Contents → Bool
is_born_as p e = is_some e.1 && (e.0 == p)

abbrev pub has_number : Born → ℕ → Bool
has_number xs p = list_any (is_born_as p) xs

-- the birth at i stands, with this number
abbrev pub StandsAt : Born → ℕ → ℕ → Type 0
StandsAt xs i p = (x : Contents) × (slice_get xs i ≡ Some (p, Some x))

stands_next : (e : ℕ × Option Contents) (xs : Born) (p : ℕ) → (i : ℕ) × StandsAt xs i p
    → (i : ℕ) × StandsAt (e ∷ xs) i p
stands_next e xs p at = (suc at.0, at.1)

-- that which is here
stands_here : (e : ℕ × Option Contents) (xs : Born) (p : ℕ) → is_born_as p e ≡ true → StandsAt (e ∷ xs) 0 p
stands_here (q, Some x) xs p is = (x, ap (λ z. Some (z, Some x)) (eq_true q p is))
stands_here (q, None) xs p is = absurd cc

numbered_stands : (xs : Born) (p : ℕ) → has_number xs p ≡ true → (i : ℕ) × StandsAt xs i p
numbered_stands [] p has = absurd cc
numbered_stands (e ∷ xs) p has = go (is_born_as p e) refl has (numbered_stands xs p)
  where
    go : (b : Bool) → is_born_as p e ≡ b → (b || has_number xs p) ≡ true
        → (has_number xs p ≡ true → (i : ℕ) × StandsAt xs i p) → (i : ℕ) × StandsAt (e ∷ xs) i p
    go true is has rest = (0, stands_here e xs p is)
    go false is has rest = stands_next e xs p (rest has)

born_self : (p : ℕ) (x : Contents) → is_born_as p (p, Some x) ≡ true
born_self p x = eq_self p

or_true : (b : Bool) → (b || true) ≡ true
or_true true = refl
or_true false = refl

some_pair : (e : ℕ × Option Contents) (p : ℕ) (x : Contents)
    → ◌≡◌ {A = Option (ℕ × Option Contents)} (Some e) (Some (p, Some x)) → e ≡ (p, Some x)
some_pair e p x is = cc

stands_numbered : (xs : Born) (i p : ℕ) → StandsAt xs i p → has_number xs p ≡ true
stands_numbered [] i p at = absurd (let e = at.1 in cc)
stands_numbered (e ∷ xs) zero p at = ap (λ z. is_born_as p z || has_number xs p) (some_pair e p at.0 at.1)
    ∙ ap (λ b. b || has_number xs p) (born_self p at.0)
stands_numbered (e ∷ xs) (suc i) p at =
    ap (λ b. is_born_as p e || b) (stands_numbered xs i p at) ∙ or_true (is_born_as p e)

-- no two that stand have one number
abbrev pub AreDistinct : Born → Type 0
AreDistinct xs = (i j p : ℕ) → StandsAt xs i p → StandsAt xs j p → i ≡ j

distinct_rest : (e : ℕ × Option Contents) (xs : Born) → AreDistinct (e ∷ xs) → AreDistinct xs
distinct_rest e xs distinct i j p at at' =
    let same : suc i ≡ suc j = distinct (suc i) (suc j) p at at' in omega arith

none_again : (xs : Born) (p : ℕ) (x : Contents) → AreDistinct ((p, Some x) ∷ xs) → has_number xs p ≡ false
none_again xs p x distinct = go (has_number xs p) refl
  where
    go : (b : Bool) → has_number xs p ≡ b → b ≡ false
    go true has = absurd
        (let at = numbered_stands xs p has in
        let same : 0 ≡ suc at.0 = distinct 0 (suc at.0) p (x, refl) at.1 in omega arith)
    go false has = refl

-- as many births stand as numbers have one
count_numbers : (n : ℕ) (xs : Born) → AreDistinct xs → ((i p : ℕ) → StandsAt xs i p → p < n)
    → count_below n (has_number xs) ≡ standing (map (λ e. e.1) xs)
count_numbers n [] distinct small = count_all_false n (has_number []) (λ k l. refl)
count_numbers n ((p, None) ∷ xs) distinct small =
    count_numbers n xs (distinct_rest (p, None) xs distinct) (λ i q at. small (suc i) q at)
count_numbers n ((p, Some x) ∷ xs) distinct small =
    let rest : count_below n (has_number xs) ≡ standing (map (λ e. e.1) xs) =
    count_numbers n xs (distinct_rest (p, Some x) xs distinct) (λ i q at. small (suc i) q at) in
    let e = sum_at n (λ q. bit (has_number xs q)) (λ q. bit (has_number ((p, Some x) ∷ xs) q)) p (small 0 p (x, refl))
    (λ j ne. ap (λ b. bit (b || has_number xs j)) (eq_other p j ne)) in
    let was : bit (has_number xs p) ≡ 0 = ap bit (none_again xs p x distinct) in
    let is : bit (has_number ((p, Some x) ∷ xs) p) ≡ 1 = ap (λ b. bit (b || has_number xs p)) (eq_self p) in
    let more : standing (map (λ e. e.1) ((p, Some x) ∷ xs)) ≡ standing (map (λ e. e.1) xs) + 1 = omega arith in
    omega (arith, e, rest, was, is, more)

-- what one test tells of the other
same_test : (a b : Bool) → (a ≡ true → b ≡ true) → (b ≡ true → a ≡ true) → a ≡ b
same_test true b to from = sym (to refl)
same_test false true to from = from refl
same_test false false to from = refl

module _ (c : Config) (last : ℕ) (now : History) (legal : IsLegal c last now) (so : IsAs (births now) (state now)) where
  present_born : (p : ℕ) (x : Option Contents) → (state now).objects p ≡ x → is_some x ≡ true
      → has_number (births now).objects p ≡ true
  present_born p None is some = absurd cc
  present_born p (Some x) is some =
      let at = so.objects p x is in stands_numbered (births now).objects at.0 p (at.1, at.2)

  born_present : (p i : ℕ) → StandsAt (births now).objects i p → is_some ((state now).objects p) ≡ true
  born_present p i at = let found = so.contents i p at.0 at.1 in ap is_some found.1

  born_small : (i p : ℕ) → StandsAt (births now).objects i p → p < c.objects + 1
  born_small i p at =
      let most : p ≤ c.objects = (present_is_in_room c last now p legal (born_present p i at)).1 in omega arith

  nothing_at_0 : is_some ((state now).objects 0) ≡ false
  nothing_at_0 = go (is_some ((state now).objects 0)) refl
    where
      go : (b : Bool) → is_some ((state now).objects 0) ≡ b → b ≡ false
      go true there =
          absurd (let least : 1 ≤ 0 = (present_is_in_room c last now 0 legal there).0 in omega arith)
      go false e = refl

  -- AS MANY BIRTHS STAND AS OBJECTS ARE PRESENT
  pub standing_present : standing (map (λ e. e.1) (births now).objects)
      ≡ count_below (c.objects + 1) (λ p. is_some ((state now).objects p))
  standing_present =
      sym (count_numbers (c.objects + 1) (births now).objects
      (λ i j p at at'. so.one_object i j p at.0 at'.0 at.1 at'.1) born_small)
      ∙ sym (sum_same (c.objects + 1) (λ p. bit (has_number (births now).objects p))
      (λ p. bit (is_some ((state now).objects p)))
      (λ p l. ap bit (same_test (is_some ((state now).objects p)) (has_number (births now).objects p)
      (present_born p ((state now).objects p) refl)
      (λ has. let at = numbered_stands (births now).objects p has in born_present p at.0 at.1))))

  -- where each number is present, as many stand as there may be
  pub standing_full : EachPresent c (state now) → standing (map (λ e. e.1) (births now).objects) ≡ c.objects
  standing_full each = standing_present
      ∙ count_full c.objects (λ p. is_some ((state now).objects p)) nothing_at_0 (λ o least most. each o least most)

  -- and fewer where some number isn't
  pub standing_fewer : (o : ℕ) → 1 ≤ o → o ≤ c.objects → (state now).objects o ≡ None
      → standing (map (λ e. e.1) (births now).objects) < c.objects
  standing_fewer o least most none =
      let x : Contents = record { kind = Plain; words = [] } in
      let more = count_more (c.objects + 1) (state now).objects o x (omega arith) none in
      let apart : o ≢ 0 = λ e. absurd (omega arith) in
      let still : is_some (update nat_eq (state now).objects o (Some x) 0) ≡ false =
      at_number (λ y. is_some y ≡ false) (state now).objects o 0 (Some x) (λ e. absurd (apart e))
      (λ ne. nothing_at_0) in
      let few = count_most c.objects (λ p. is_some (update nat_eq (state now).objects o (Some x) p)) still in
      let same = standing_present in
      omega (arith, more, few, same)
