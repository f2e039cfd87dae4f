use Rattle.std.proofs.Common.{◌≡◌, ◌≢◌, ◌==◌, ℕ, cond, false, length, List, [], sym, ap, subst, ◌∙◌, arith}
use Rattle.std.proofs.lemmas.Bool.Decides.{nat_tests}
use mathlib.Core.Logic.{∥∥₁_map}
use Rattle.jr_word.specs.declared.kind.Kind.TheVariants.{Int}
use Rattle.jr_model.specs.State.{AreWords}
use Rattle.jr_steps.specs.declared.known.Known.{Known}
use Rattle.jr_steps.specs.declared.known.Holdings.{Holdings}
use Rattle.jr_steps.specs.Holdings.{words_at}
use Rattle.jr_steps.specs.Knowing.{MayKnow, state_of}
use Rattle.jr_heap.specs.Heap.{IsReady, Gains}
use Rattle.jr_heap.proofs.Calling.{may_called, uncounted}
use Rattle.jr_heap_tests.proofs.heap.made_beside.Goals as goal

other_place : (p place : ℕ) → p ≢ place → (place == p) ≡ false
other_place p place ne = grind (arith, nat_tests)

keep : (p q : ℕ) (k k' : Known) → IsReady Int p 3 k → Gains 2 q k k' → IsReady Int p 3 k'
keep p q k k' r g =
    let ne : p ≢ q = λ e. let none =
    ap (λ (ws : List ℕ). length ws) (subst (λ z. words_at z k.holdings.ranges ≡ []) (sym e) g.3) in let long = r.long in
    absurd (omega arith) in
    let same : words_at p k'.holdings.ranges ≡ words_at p k.holdings.ranges =
    ap (λ (h : Holdings). words_at p h.ranges) g.2
    ∙ ap (λ b. cond b g.0 (words_at p k.holdings.ranges)) (other_place p q ne) in
    record {
      long = ap (λ (ws : List ℕ). length ws) same ∙ r.long;
      words = subst (λ ws. AreWords (state_of k) Int ws) (sym same) r.words;
    }

pub publish-requires-clause-ready : goal.publish-requires-clause-ready
publish-requires-clause-ready g c =
    let facts = g.S.Steps.facts in
    let p = c.in_ok-first.first.place in
    let three = (c.in_ok-first.ensures.ok).0 in
    let filled = c.fill.ensures.ready Int (∥∥₁_map c.in_ok-first.ensures.own (λ k. (k.0, k.1, (k.2, omega arith)))) in
    subst (λ m. MayKnow facts c.reserve-2.new.steps (IsReady Int p m)) (sym three)
    (may_called (uncounted (c.in_ok-_second.ensures.ok).1)
    (subst (λ m. MayKnow facts c.fill.new.steps (IsReady Int p m)) three filled) (λ k w. tt) (λ k j s w acts d l.
    keep p c.in_ok-_second._second.place k j w l))
