-- Counts of threads and of references.
use Rattle.std.proofs.Common.{◌≡◌, ◌≢◌, ⊎_elim, ℕ, zero, suc, ◌+◌, ◌<◌, ◌≤◌, ◌==◌, Bool, true, false}
use Rattle.std.proofs.Common.{not, cond, if◌then◌else◌, refl, sym, ap, subst, ◌∙◌, arith, nat_eq}
use Rattle.jr_word.specs.declared.config.Config.{Config}
use Rattle.jr_model.specs.declared.event.Role.{Role}
use Rattle.jr_model.specs.Maps.{update, sum_below, count_below}
use Rattle.jr_model.specs.State.{State, opening, is_barring, is_inside, is_outside, not_outside}
use Rattle.std.proofs.lemmas.Bool.{cases_lt}
use Rattle.jr_model.specs.declared.event.Role.TheVariants.{Outside}
use Rattle.jr_model.specs.declared.event.Event.{Event}
use Rattle.jr_model.specs.declared.event.Act.TheVariants.{Gate, ShutBusy}
use Rattle.jr_model.specs.declared.event.GateAct.TheVariants.{Knock}
use Rattle.jr_model.specs.Steps.{ActNeeds, Needs, after}
use Rattle.jr_model.specs.History.{History, state, IsLegal, role_after}
use Rattle.jr_model.proofs.Histories.{kept_from}
use Rattle.jr_model.proofs.Stays.{role_step}
use Rattle.jr_model.proofs.Updates.{at_number, at_number_self, eq_true, eq_false, eq_other}
use Rattle.jr_model.proofs.Lengths.{sum_same, sum_none}

-- a sum of which the part at k changes
pub sum_at : (n : ℕ) (f g : ℕ → ℕ) (k : ℕ) → k < n → ((j : ℕ) → k ≢ j → g j ≡ f j)
    → sum_below n g + f k ≡ sum_below n f + g k
unfolding sum_below
sum_at zero f g k l h = absurd (omega arith)
sum_at (suc n) f g k l h = go (k == n) refl (λ m. sum_at n f g k m h)
  where
    go : (b : Bool) → (k == n) ≡ b → (k < n → sum_below n g + f k ≡ sum_below n f + g k)
        → sum_below n g + g n + f k ≡ sum_below n f + f n + g k
    go true e rest =
        let here : k ≡ n = eq_true k n e in
        let same : sum_below n g ≡ sum_below n f = sum_same n f g (λ j m. h j (omega arith)) in
        rw here (omega arith)
    go false e rest =
        let apart : k ≢ n = eq_false k n e in
        let there : g n ≡ f n = h n apart in
        let r = rest (omega arith) in omega arith

-- 1 where b holds
abbrev pub bit : Bool → ℕ
bit b = if b then 1 else 0

-- the count after one thread takes another role
pub count_role : (n : ℕ) (p : Role → Bool) (role : ℕ → Role) (t : ℕ) (r : Role) → t < n
    → count_below n (λ u. p (update nat_eq role t r u)) + bit (p (role t)) ≡ count_below n (λ u. p (role u)) + bit (p r)
count_role n p role t r l =
    subst (λ x. count_below n (λ u. p (update nat_eq role t r u)) + bit (p (role t))
    ≡ count_below n (λ u. p (role u)) + bit (p x)) (at_number_self role t r)
    (sum_at n (λ u. bit (p (role u))) (λ u. bit (p (update nat_eq role t r u))) t l
    (λ j ne. at_number (λ x. bit (p x) ≡ bit (p (role j))) role t j r (λ e. absurd (ne e)) (λ ne'. refl)))

-- none passes where the count is 0
pub count_none : (n : ℕ) (p : ℕ → Bool) → count_below n p ≡ 0 → (k : ℕ) → k < n → p k ≡ false
unfolding sum_below
count_none zero p e k l = absurd (omega arith)
count_none (suc n) p e k l = go (λ m. count_none n p m k) (p n) refl (k == n) refl
  where
    go : (count_below n p ≡ 0 → k < n → p k ≡ false) → (b : Bool) → p n ≡ b → (d : Bool) → (k == n) ≡ d → p k ≡ false
    go rest true is d same = let e' : count_below n p + 1 ≡ 0 = subst (λ b. count_below n p + bit b ≡ 0) is e in
        absurd (omega arith)
    go rest false is true same = ap p (eq_true k n same) ∙ is
    go rest false is false same =
        let e' : count_below n p + 0 ≡ 0 = subst (λ b. count_below n p + bit b ≡ 0) is e in
        let apart : k ≢ n = eq_false k n same in
        rest (omega arith) (omega arith)

pub count_all_false : (n : ℕ) (p : ℕ → Bool) → ((k : ℕ) → k < n → p k ≡ false) → count_below n p ≡ 0
count_all_false n p h = sum_same n (λ k. 0) (λ k. bit (p k)) (λ k l. ap bit (h k l)) ∙ sum_none n

pub count_single : (n : ℕ) (p : ℕ → Bool) (k : ℕ) → k < n → p k ≡ true → ((j : ℕ) → k ≢ j → p j ≡ false)
    → count_below n p ≡ 1
count_single n p k l here others =
    let e = sum_at n (λ j. 0) (λ j. bit (p j)) k l (λ j ne. ap bit (others j ne)) in
    let z = sum_none n in
    let one : bit (p k) ≡ 1 = ap bit here in
    omega arith

pub sum_split : (n : ℕ) (f g h : ℕ → ℕ) → ((k : ℕ) → h k ≡ f k + g k) → sum_below n h ≡ sum_below n f + sum_below n g
unfolding sum_below
sum_split zero f g h e = refl
sum_split (suc n) f g h e = let rest = sum_split n f g h e in let here = e n in omega arith

-- who is not outside is inside, or keeps the gate closed
bit_outside : (r : Role) → bit (not (is_outside r)) ≡ bit (is_inside r) + bit (is_barring r)
bit_outside Outside = refl
bit_outside _ = refl

pub not_outside_split : (c : Config) (s : State) → not_outside c s
    ≡ count_below c.threads (λ t. is_inside (s.role t)) + count_below c.threads (λ t. is_barring (s.role t))
not_outside_split c s = sum_split c.threads (λ t. bit (is_inside (s.role t))) (λ t. bit (is_barring (s.role t)))
    (λ t. bit (not (is_outside (s.role t)))) (λ t. bit_outside (s.role t))

-- what is not true is false
pub not_true : (b : Bool) → (b ≡ true → ⊥) → b ≡ false
not_true true no' = absurd (no' refl)
not_true false no' = refl

outside_true : (r : Role) → not (is_outside r) ≡ false → r ≡ Outside
outside_true Outside e = refl
outside_true _ e = absurd cc

-- one thread is all that is counted
count_one : (n : ℕ) (p : ℕ → Bool) (k : ℕ) → k < n → ((j : ℕ) → k ≢ j → p j ≡ false) → count_below n p ≡ bit (p k)
count_one n p k l others = go (p k) refl
  where
    go : (b : Bool) → p k ≡ b → count_below n p ≡ bit b
    go true here = count_single n p k l here others
    go false here = count_all_false n p (λ j m. each j (k == j) refl)
      where
        each : (j : ℕ) (d : Bool) → (k == j) ≡ d → p j ≡ false
        each j true e = sym (ap p (eq_true k j e)) ∙ here
        each j false e = others j (eq_false k j e)

own_is : (r : Role) → ◌≡◌ {A = ℕ} (if is_outside r then 0 else 1) (bit (not (is_outside r)))
own_is Outside = refl
own_is _ = refl

module _ (c : Config) (last : ℕ) where
  pub beyond_after : (s : State) (e : Event) → ((t : ℕ) → c.threads ≤ t → s.role t ≡ Outside) → Needs c last s e
      → (t : ℕ) → c.threads ≤ t → (after s e).role t ≡ Outside
  beyond_after s e i n t l =
      let apart : e.thread ≢ t = λ z. absurd (let small = n.0 in omega arith) in
      role_step s e.thread e.act t
      ∙ (ap (λ b. cond b (role_after (s.role t) e.act) (s.role t)) (eq_other e.thread t apart) ∙ i t l)

  -- who is no thread of the room is outside
  pub outside_beyond : (es : History) → IsLegal c last es → (t : ℕ) → c.threads ≤ t → (state es).role t ≡ Outside
  outside_beyond es l =
      kept_from c last (λ s. (t : ℕ) → c.threads ≤ t → s.role t ≡ Outside) beyond_after opening es (λ t l'. refl) l

  -- where the count of those not outside is 0, all are outside
  pub all_outside : (es : History) → IsLegal c last es → not_outside c (state es) ≡ 0 → (t : ℕ)
      → (state es).role t ≡ Outside
  all_outside es l none t = ⊎_elim
      (λ (h : t < c.threads).
      outside_true ((state es).role t) (count_none c.threads (λ u. not (is_outside ((state es).role u))) none t h))
      (λ (h : c.threads ≤ t). outside_beyond es l t h)
      (cases_lt t c.threads)

  -- where all are outside, nobody knocks
  pub nobody_knocks : (s : State) (t : ℕ) → ((u : ℕ) → s.role u ≡ Outside) → ActNeeds c last s t (Gate Knock) → ⊥
  nobody_knocks s t out needs = let collects = needs.1 in let is = collects.1 in let o = out collects.0 in cc

  -- and where all others are, nobody is refused a shut
  pub nobody_is_busy : (n : ℕ) (s : State) (t : ℕ) → t < c.threads → ((u : ℕ) → u ≢ t → s.role u ≡ Outside)
      → ActNeeds c last s t (ShutBusy n) → ⊥
  nobody_is_busy n s t row out needs =
      let one = count_one c.threads (λ u. not (is_outside (s.role u))) t row (λ u ne.
      ap (λ r. not (is_outside r)) (out u (λ z. ne (sym z)))) in
      let own = own_is (s.role t) in
      let least : 1 ≤ n = needs.2 in
      let counted = needs.1 in
      absurd (omega (arith, one, own, least, counted))
