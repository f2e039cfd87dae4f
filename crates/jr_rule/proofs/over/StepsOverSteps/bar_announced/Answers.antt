use Rattle.std.proofs.Common.{rules, refl, inr}
use Rattle.jr_word.specs.declared.gate.GateState.TheVariants.{Announced}
use Rattle.jr_model.specs.declared.event.Role.TheVariants.{Announcing}
use Rattle.jr_rule.proofs.GateOwed.{shuts}
use Rattle.jr_rule.proofs.Told.{barred, bar_lost, busy_leaves, word_read}
use Rattle.jr_rule.proofs.StepTaken.{its_acts, known_any, known_in, leaves, owing, stood, took}
use Rattle.jr_rule.proofs.over.StepsOverSteps.bar_announced.Goals as goal

pub exchange-found-requires-clause-owed : goal.exchange-found-requires-clause-owed
exchange-found-requires-clause-owed g c = let s = c.args.self.now in owing s c.requires (known_any s) (search rules) (λ
    k among role m. shuts k Announced (inr refl) role)

pub invariant_of-self : goal.invariant_of-self
invariant_of-self g c = let s = c.args.self.now in stood s c.requires (known_any s)
    c.exchange-found.ensures.there c.exchange-found.ensures.step (busy_leaves Announced Announcing
    c.if-found-ne-ANNOUNCED.true)

pub unwrap-requires : goal.unwrap-requires
unwrap-requires g c = let s = c.args.self.now in
    word_read c.exchange-found.ensures.step (known_in s c.requires (known_any s))
    (λ k k' done t. let u = t.1 c.if-found-ne-ANNOUNCED.true in (u.0, u.1, u.2)) c.parts.result c.parts.ensures.complete

pub returns-then-found-ne-ANNOUNCED-clause-step : goal.returns-then-found-ne-ANNOUNCED-clause-step
returns-then-found-ne-ANNOUNCED-clause-step g c = let s = c.args.self.now in
    took s _ c.exchange-found.ensures.step refl c.requires _ (bar_lost _ c.parts.ensures.complete _ c.unwrap.ensures
    Announced Announcing c.if-found-ne-ANNOUNCED.true _ c.from.ensures) refl refl

pub returns-then-found-ne-ANNOUNCED-clause-seen : goal.returns-then-found-ne-ANNOUNCED-clause-seen
returns-then-found-ne-ANNOUNCED-clause-seen g c = let s = c.args.self.now in
    c.exchange-found.ensures.seen _ (its_acts (bar_lost _ c.parts.ensures.complete _ c.unwrap.ensures Announced
    Announcing c.if-found-ne-ANNOUNCED.true _ c.from.ensures))

pub invariant_of-self-2 : goal.invariant_of-self-2
invariant_of-self-2 g c = let s = c.args.self.now in stood s c.requires (known_any s)
    c.exchange-found.ensures.there c.exchange-found.ensures.step (leaves (barred Announced Announcing
    c.if-found-ne-ANNOUNCED.false) (λ k. refl) (λ k. refl))

pub returns-clause-step : goal.returns-clause-step
returns-clause-step g c = let s = c.args.self.now in took s _ c.exchange-found.ensures.step refl c.requires _
    (barred Announced Announcing c.if-found-ne-ANNOUNCED.false) refl refl

pub returns-clause-seen : goal.returns-clause-seen
returns-clause-seen g c = let s = c.args.self.now in
    c.exchange-found.ensures.seen _ (its_acts (barred Announced Announcing c.if-found-ne-ANNOUNCED.false))
