-- ALL THREADS of a machine, each beside its world alone.
use Rattle.std.proofs.Common.{◌≡◌, ◌≢◌, ◌⊎◌, ◌<◌, ◌≤◌, ◌+◌, ◌==◌, ℕ, zero, suc, Bool, true, false, cond, Option, List}
use Rattle.std.proofs.Common.{length, inl, inr, refl, sym, ap, subst, ◌∙◌, arith, nat_eq}
use native.Mathlib.Decide.{ℕ_discrete}
use mathlib.Core.Logic.{dite}
use Rattle.jr_word.specs.declared.config.Config.{Config}
use Rattle.jr_word.specs.declared.handle.RefKind.TheVariants.{Global, Weak}
use Rattle.jr_model.specs.Maps.{sum_below, update}
use Rattle.jr_model.proofs.Counts.{sum_at}
use Rattle.jr_model.proofs.Updates.{at_number, at_number_self, eq_false, eq_other, eq_true}
use Rattle.jr_world.specs.World.{refs_of, standing}
use Rattle.jr_world.specs.Doing.{Doing, Noted, Shared, as_seen}
use Rattle.jr_world.specs.Doing.Doing.{ended, steps}
use Rattle.jr_world.specs.Schedules.{Machine, stepped}
use Rattle.jr_scripts.specs.OneRow.{Course}
use Rattle.jr_scripts.proofs.OneRow.Spoilt.{EachEnds, IsSpoiltEnd, SpoiltBy}
use Rattle.jr_scripts.proofs.Apart.Goes.{was_on}
use Rattle.jr_scripts.proofs.Apart.Leads.{Leaps, WasNoted}
use Rattle.jr_scripts.proofs.Apart.Lines.{EndsAsAlone, LinesLead}
use Rattle.jr_scripts.proofs.Apart.Mirrors.{AreApart, Asks, Fits, Mirrors, apart_on, made_slots, mirrors_beside}
use Rattle.jr_scripts.proofs.Apart.Numbers.{Numbers}

-- by whether a thread is this one
by_thread : (P : Bool → Type 0) (t v : ℕ) → (t ≡ v → P true) → (t ≢ v → P false) → P (t == v)
by_thread P t v here there = go (t == v) refl
  where
    go : (b : Bool) → (t == v) ≡ b → P b
    go true e = here (eq_true t v e)
    go false e = there (eq_false t v e)

-- SUMS: one of their parts is no more; and after a part has changed
sum_one : (n : ℕ) (f : ℕ → ℕ) (k : ℕ) → k < n → f k ≤ sum_below n f
unfolding sum_below
sum_one zero f k less = absurd (omega arith)
sum_one (suc n) f k less = dite (ℕ_discrete k n)
    (λ e. let same : f k ≡ f n = ap f e in omega arith)
    (λ apart. let one = sum_one n f k (omega arith) in omega arith)

sum_after : {X : Type 0} (n : ℕ) (of : X → ℕ) (f : ℕ → X) (t : ℕ) (x : X) → t < n
    → sum_below n (λ v. of (update nat_eq f t x v)) + of (f t) ≡ sum_below n (λ v. of (f v)) + of x
sum_after n of f t x less = subst
    (λ y. sum_below n (λ v. of (update nat_eq f t x v)) + of (f t) ≡ sum_below n (λ v. of (f v)) + of y)
    (at_number_self f t x)
    (sum_at n (λ v. of (f v)) (λ v. of (update nat_eq f t x v)) t less
    (λ v other. ap (λ b. of (cond b x (f v))) (eq_other t v other)))

apart_back : (j k : Numbers) → AreApart j k → AreApart k j
apart_back j k apart = record {
  refs = λ m n less small e. apart.refs n m small less (sym e);
  objects = λ m n less small e. apart.objects n m small less (sym e);
}

module _ (c : Config) (courses : ℕ → Course) where
  -- THE MACHINE STANDS BESIDE them: what all still ask for fits, and what stands is what stands alone, in all
  pub record Beside (m : Machine (List ℕ)) : Type 0 where
    pub numbers : ℕ → Numbers
    pub asks : ℕ → Asks
    pub alone : ℕ → Shared
    pub noted : ℕ → Option Noted
    pub leads : (t : ℕ) → t < c.threads
        → LinesLead c t (noted t) (EndsAsAlone (courses t)) (m.programs t) (numbers t) (asks t) (alone t)
    pub mirrors : (t : ℕ) → t < c.threads → Mirrors t (numbers t) m.shared (alone t)
    pub was_noted : (t : ℕ) → t < c.threads → WasNoted (noted t) m.shared
    pub apart : (t v : ℕ) → t < c.threads → v < c.threads → (t ≡ v → ⊥) → AreApart (numbers t) (numbers v)
    pub slots : made_slots m.shared + sum_below c.threads (λ t. (asks t).slots) ≤ c.slots
    pub objects : length m.shared.objects + sum_below c.threads (λ t. (asks t).objects) ≤ c.objects
    pub words : m.shared.used + sum_below c.threads (λ t. (asks t).words) ≤ c.words
    pub globals : refs_of Global (as_seen 0 m.shared) ≡ sum_below c.threads (λ t. refs_of Global (as_seen 0 (alone t)))
    pub weaks : refs_of Weak (as_seen 0 m.shared) ≡ sum_below c.threads (λ t. refs_of Weak (as_seen 0 (alone t)))
    pub live : standing m.shared.objects ≡ sum_below c.threads (λ t. standing (alone t).objects)
    pub used : m.shared.used ≡ sum_below c.threads (λ t. (alone t).used)

  -- thread t took a step to there
  one_more : (m : Machine (List ℕ)) (b : Beside m) (t : ℕ) → t < c.threads → (d : Doing (List ℕ)) (s : Shared)
      (j : Numbers) (p : Asks) (y : Shared) (since : Option Noted)
      → Leaps c t (b.numbers t) (b.asks t) m.shared (b.alone t) s j p y → WasNoted since s
      → LinesLead c t since (EndsAsAlone (courses t)) d j p y
      → Beside (record { programs = update nat_eq m.programs t d; shared = s })
  one_more m b t less d s j p y since leaps was rest = record {
    numbers = update nat_eq b.numbers t j;
    asks = update nat_eq b.asks t p;
    alone = update nat_eq b.alone t y;
    noted = update nat_eq b.noted t since;
    leads = λ v below. by_thread (λ x. LinesLead c v (cond x since (b.noted v)) (EndsAsAlone (courses v))
        (cond x d (m.programs v)) (cond x j (b.numbers v)) (cond x p (b.asks v)) (cond x y (b.alone v))) t v
        (λ e. subst (λ u. LinesLead c u since (EndsAsAlone (courses u)) d j p y) e rest) (λ other. b.leads v below);
    mirrors = λ v below. by_thread (λ x. Mirrors v (cond x j (b.numbers v)) s (cond x y (b.alone v))) t v
        (λ e. subst (λ u. Mirrors u j s y) e leaps.mirrors)
        (λ other. mirrors_beside t v (b.numbers v) (b.numbers t) m.shared s (b.alone v) (λ e. other (sym e))
        (b.apart v t below less (λ e. other (sym e))) (b.mirrors v below) leaps.untouched);
    was_noted = λ v below. at_number (λ x. WasNoted x s) b.noted t v since (λ e. was)
        (λ other. was_on (b.noted v) m.shared s leaps.untouched.owners (b.was_noted v below));
    apart = λ u v below small differ. by_thread
        (λ x. AreApart (cond x j (b.numbers u)) (update nat_eq b.numbers t j v)) t u
        (λ e. by_thread (λ x. AreApart j (cond x j (b.numbers v))) t v
        (λ f. absurd (differ (sym e ∙ f))) (λ other. apart_back (b.numbers v) j (from_new v small other)))
        (λ other. by_thread (λ x. AreApart (b.numbers u) (cond x j (b.numbers v))) t v
        (λ f. from_new u below other) (λ other'. b.apart u v below small differ));
    slots = let all = b.slots in let it = leaps.spends.slots in
        let sums = sum_after c.threads (λ (q : Asks). q.slots) b.asks t p less in omega arith;
    objects = let all = b.objects in let it = leaps.spends.objects in
        let sums = sum_after c.threads (λ (q : Asks). q.objects) b.asks t p less in omega arith;
    words = let all = b.words in let it = leaps.spends.words in
        let sums = sum_after c.threads (λ (q : Asks). q.words) b.asks t p less in omega arith;
    globals = let all = b.globals in let it = leaps.counts.globals in
        let sums = sum_after c.threads (λ x. refs_of Global (as_seen 0 x)) b.alone t y less in omega arith;
    weaks = let all = b.weaks in let it = leaps.counts.weaks in
        let sums = sum_after c.threads (λ x. refs_of Weak (as_seen 0 x)) b.alone t y less in omega arith;
    live = let all = b.live in let it = leaps.counts.live in
        let sums = sum_after c.threads (λ (x : Shared). standing x.objects) b.alone t y less in omega arith;
    used = let all = b.used in let it = leaps.counts.used in
        let sums = sum_after c.threads (λ (x : Shared). x.used) b.alone t y less in omega arith;
  }
    where
      -- its new numbers are no other's
      from_new : (v : ℕ) → v < c.threads → (t ≢ v) → AreApart (b.numbers v) j
      from_new v below other = apart_on t (b.numbers v) (b.numbers t) j m.shared s y (b.alone v) v
          (b.apart v t below less (λ e. other (sym e))) (b.mirrors v below) leaps.extends leaps.mirrors
          leaps.new_refs leaps.new_objects

  -- A TURN leaves it so, or a text is spoilt
  pub turn_beside : (m : Machine (List ℕ)) → Beside m → (t : ℕ) → t < c.threads → (luck : Bool)
      → Beside (stepped m t luck (m.programs t)) ⊎ SpoiltBy c.threads (stepped m t luck (m.programs t))
  turn_beside m b t less luck = go (m.programs t) (b.leads t less)
    where
      fits : Fits c (b.asks t) m.shared
      fits = record {
        slots = let all = b.slots in let one = sum_one c.threads (λ v. (b.asks v).slots) t less in omega arith;
        objects = let all = b.objects in let one = sum_one c.threads (λ v. (b.asks v).objects) t less in omega arith;
        words = let all = b.words in let one = sum_one c.threads (λ v. (b.asks v).words) t less in omega arith;
      }

      go : (d : Doing (List ℕ))
          → LinesLead c t (b.noted t) (EndsAsAlone (courses t)) d (b.numbers t) (b.asks t) (b.alone t)
          → Beside (stepped m t luck d) ⊎ SpoiltBy c.threads (stepped m t luck d)
      go (ended r) leads = inl b
      go (steps more leaves) (inl leads) =
          let to = leads luck m.shared (b.mirrors t less) fits (b.was_noted t less) in inl
          (one_more m b t less (more t luck m.shared) (leaves t luck m.shared) to.0 to.1 to.2 to.3 to.4 to.5 to.6)
      go (steps more leaves) (inr spoilt) = inr (record {
        thread = t;
        is_one = less;
        spoilt = subst (EachEnds IsSpoiltEnd) (sym (at_number_self m.programs t (more t luck m.shared)))
            (spoilt t luck m.shared);
      })
