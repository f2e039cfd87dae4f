-- One thread alone is never refused.
use Rattle.std.proofs.Common.{◌≡◌, ◌≢◌, ℕ, ◌<◌, ◌≤◌, ⊎_elim, [], ◌∷◌, ◌++◌}
use Rattle.std.proofs.Common.{cond, refl, sym, ap, subst, ◌∙◌, ne_eqb, arith}
use Rattle.std.proofs.lemmas.Bool.{cases_lt}
use Rattle.std.proofs.lemmas.List.{append-nil}
use Rattle.std.proofs.Math.Logic.{∥∥₁_elim}
use Rattle.std.specs.List.{AllByRecursion}
use mathlib.Core.Logic.{dite}
use native.Mathlib.Decide.{ℕ_discrete}
use Rattle.jr_word.specs.declared.config.Config.{Config}
use Rattle.jr_model.specs.declared.event.Role.TheVariants.{Outside}
use Rattle.jr_model.specs.declared.event.Act.{Act}
use Rattle.jr_model.specs.declared.event.Act.TheVariants.{Gate, ShutBusy}
use Rattle.jr_model.specs.declared.event.GateAct.TheVariants.{Knock}
use Rattle.jr_model.specs.Steps.{Needs}
use Rattle.jr_model.specs.History.{History, by, state, IsLegal, mine, role_from}
use Rattle.jr_model.proofs.Histories.{legal_push}
use Rattle.jr_model.proofs.Counts.{outside_beyond, nobody_knocks, nobody_is_busy}
use Rattle.jr_model.proofs.Stays.{role_of_state}
use Rattle.jr_steps.specs.declared.known.Known.{Known}
use Rattle.jr_steps.specs.Knowing.{AreLone, AreOf, Facts, Goes, IsLone, MayKnow, Standing, Took, anything}
use Rattle.jr_steps.proofs.StepFacts.{none_between}

-- what a step needed of the state before it
needed : {k k' : Known} (a : Act) (g : Goes k (a ∷ []) k') → let before = k.seen ++ g.between in
    IsLegal k.config k.last before × Needs k.config k.last (state before) (by k.thread a)
needed {k} a g = (legal_push k.config k.last (k.seen ++ g.between) (by k.thread a)).0
    (subst (IsLegal k.config k.last) g.seen g.legal)

-- all others are outside
abbrev pub OthersOutside : History → ℕ → Type 0
OthersOutside es t = (u : ℕ) → u ≢ t → (state es).role u ≡ Outside

-- and so are all, where the thread is
pub all_outside : (es : History) (t : ℕ) → OthersOutside es t → (state es).role t ≡ Outside → (u : ℕ)
    → (state es).role u ≡ Outside
all_outside es t others out u = dite (ℕ_discrete u t) (λ e. ap (state es).role e ∙ out) (λ ne. others u ne)

-- who did nothing is outside
own_outside : (es : History) (t : ℕ) → AllByRecursion (λ e. e.thread ≡ t) es → OthersOutside es t
own_outside es t all u ne = role_of_state es u ∙ ap (role_from Outside) (none es all)
  where
    none : (es : History) → AllByRecursion (λ e. e.thread ≡ t) es → mine es u ≡ []
    none [] all = refl
    none (e ∷ es) all =
        ap (λ b. cond b (e.act ∷ mine es u) (mine es u)) (ne_eqb e.thread u (λ z. ne (sym z ∙ all.0))) ∙ none es all.1

-- there is no other thread in a room of one
one_outside : (c : Config) (last : ℕ) (es : History) (t : ℕ) → c.threads ≡ 1 → IsLegal c last es → t < c.threads
    → OthersOutside es t
one_outside c last es t one legal below u ne = ⊎_elim
    (λ (h : u < c.threads). absurd (ne (omega arith)))
    (λ (h : c.threads ≤ u). outside_beyond c last es legal u h)
    (cases_lt u c.threads)

module _ {S : Type 0} (facts : S → Facts) (fits : AreOf facts) (own : AreLone facts) where
  -- where a lone thread stands, all others are outside
  pub others_outside : (s : S) → IsLone (facts s).stands → (facts s).stands.thread < (facts s).stands.config.threads
      → (k : Known) → (facts s).knows k → OthersOutside k.seen k.thread
  others_outside s lone row k h = ⊎_elim
      (λ none. own_outside k.seen k.thread (own s k none h))
      (λ one.
      let of = fits s k h in
      let threads = ap (λ (c : Config). c.threads) of.config in
      let thread = of.thread in one_outside k.config k.last k.seen k.thread (threads ∙ one) of.legal (omega arith))
      lone

module _ {S : Type 0} {facts : S → Facts} (fits : AreOf facts) (own : AreLone facts) where
  -- and right before its step
  others_before : {old new : S} {a : Act} {shows : Known → Known → Type 0}
      (t : Took facts old new (a ∷ []) anything shows) → IsLone (facts old).stands
      → (k : Known) (h : (facts old).knows k) → OthersOutside (k.seen ++ (t.goes k h tt).2.between) k.thread
  others_before {old} {new} {a} t lone k h =
      let g = t.goes k h tt in
      let before = k.seen ++ g.2.between in
      ⊎_elim
      (λ none.
      let nobody = none_between g.2 (own new g.0 (ap (λ (s : Standing). s.room) t.stands_is ∙ none) g.1) in
      subst (λ es. OthersOutside es k.thread) (sym (ap (λ es. k.seen ++ es) nobody ∙ append-nil k.seen))
      (own_outside k.seen k.thread (own old k none h)))
      (λ one.
      let n = needed a g.2 in one_outside k.config k.last before k.thread
      (ap (λ (c : Config). c.threads) (fits old k h).config ∙ one) n.0 n.1.0)
      lone

  module _ {old new : S} {shows : Known → Known → Type 0} (some : MayKnow facts old anything)
      (lone : IsLone (facts old).stands) where
    -- who knocks is outside while another thread keeps the gate closed
    pub never_knocks : Took facts old new (Gate Knock ∷ []) anything shows → ⊥
    never_knocks t =
        let each : ((k : Known) × (facts old).knows k × anything k) → ⊥ = λ k.
        let g = (t.goes k.0 k.1 tt).2 in
        let before = k.0.seen ++ g.between in
        let n = needed (Gate Knock) g in
        nobody_knocks k.0.config k.0.last (state before) k.0.thread
        (all_outside before k.0.thread (others_before t lone k.0 k.1) n.1.1.0) n.1.1 in
        ∥∥₁_elim some (λ x y. absurd x) each

    -- who is refused a shut is so while others are counted
    pub never_busy : (n : ℕ) → Took facts old new (ShutBusy n ∷ []) anything shows → ⊥
    never_busy n t =
        let each : ((k : Known) × (facts old).knows k × anything k) → ⊥ = λ k.
        let g = (t.goes k.0 k.1 tt).2 in
        let m = needed (ShutBusy n) g in
        nobody_is_busy k.0.config k.0.last n (state (k.0.seen ++ g.between)) k.0.thread m.1.0
        (others_before t lone k.0 k.1) m.1.1 in
        ∥∥₁_elim some (λ x y. absurd x) each
