use Rattle.std.proofs.Common.{◌≡◌, ◌<◌, Some, rules, refl, sym, subst, ◌∙◌, arith}
use Rattle.std.proofs.Math.Logic.{∥∥₁_elim}
use Rattle.std.proofs.Props.{props}
use Rattle.jr_word.specs.declared.config.Config.{Config}
use Rattle.jr_rule.proofs.FromMayKnow.{object_some}
use Rattle.jr_rule.proofs.Readings.{one_slot, found_so}
use Rattle.jr_rule.proofs.StepTaken.{exchange_at, its_acts, known_in, owing, stood, took}
use Rattle.jr_rule.proofs.SlotOwed.{claims_slot}
use Rattle.jr_rule.proofs.Told.{claim_leaves, claim_won, claim_lost, Claimed}
use Rattle.jr_rule.proofs.Slots.{free_fits, names_object}
use Rattle.jr_rule.specs.Over.{facts_over as facts}
use Rattle.jr_rule.proofs.over.StepsOverSteps.claim.Goals as goal

pub pack-made-requires : goal.pack-made-requires
pack-made-requires g c =
    let some = object_some facts (λ s k h. h.1) c.args.self.now c.args.object c.requires.looked in
    names_object c.args.kind c.args.serial (Some c.args.object) c.reference.result c.reference.ensures
    (λ x e. let same : c.args.object ≡ x = cc in omega arith)

pub exchange-found-requires-clause-owed : goal.exchange-found-requires-clause-owed
exchange-found-requires-clause-owed g c =
    let s = c.args.self.now in
    let i = c.args.index in
    let o = c.args.object in
    let serial = c.args.serial in
    owing s c.requires.role c.requires.looked (search rules) (λ k among role m.
    exchange_at k (Claimed i serial c.args.kind o k) (sym c.slot_at-at.ensures) (sym c.pack-looked.ensures)
    (sym c.pack-made.ensures)
    (claims_slot k role i serial c.args.kind o c.reference.result (subst (λ (z : Config). i < z.slots)
    (sym among.config) c.requires.row) (∥∥₁_elim m (hlevel props) (λ q. free_fits i serial k q.1)) c.requires.kind
    c.reference.ensures (∥∥₁_elim m (hlevel props) (λ q. q.0))))

pub invariant_of-self : goal.invariant_of-self
invariant_of-self g c = let s = c.args.self.now in stood s c.requires.role c.requires.looked
    c.exchange-found.ensures.there c.exchange-found.ensures.step (claim_leaves c.args.index c.args.serial c.args.kind
    c.args.object)

pub of_word-requires : goal.of_word-requires
of_word-requires g c =
    let s = c.args.self.now in
    one_slot
    (found_so c.exchange-found.ensures.step (known_in s c.requires.role c.requires.looked)
    (λ k k' done t. let u = t.1 (λ e. c.if-found-looked.true (e ∙ sym c.pack-looked.ensures)) in (u.0, u.1, u.2)))

pub returns-then-found-looked-clause-step : goal.returns-then-found-looked-clause-step
returns-then-found-looked-clause-step g c =
    let s = c.args.self.now in
    took s _ c.exchange-found.ensures.step refl c.requires.role _ (claim_lost c.args.index c.args.serial c.args.kind
    c.args.object (λ e. c.if-found-looked.true (e ∙ sym c.pack-looked.ensures)) c.of_word.result c.of_word.ensures) refl
    refl

pub returns-then-found-looked-clause-seen : goal.returns-then-found-looked-clause-seen
returns-then-found-looked-clause-seen g c =
    let s = c.args.self.now in
    c.exchange-found.ensures.seen _ (its_acts (claim_lost c.args.index c.args.serial c.args.kind c.args.object
    (λ e. c.if-found-looked.true (e ∙ sym c.pack-looked.ensures)) c.of_word.result c.of_word.ensures))

pub returns-clause-step : goal.returns-clause-step
returns-clause-step g c =
    let s = c.args.self.now in
    took s _ c.exchange-found.ensures.step refl c.requires.role _ (claim_won c.args.index c.args.serial c.args.kind
    c.args.object (c.if-found-looked.false ∙ c.pack-looked.ensures)) refl refl

pub returns-clause-seen : goal.returns-clause-seen
returns-clause-seen g c =
    let s = c.args.self.now in
    c.exchange-found.ensures.seen _ (its_acts
    (claim_won c.args.index c.args.serial c.args.kind c.args.object (c.if-found-looked.false ∙ c.pack-looked.ensures)))
