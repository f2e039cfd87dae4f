use Rattle.std.proofs.Common.{true, false, refl, sym, ap, rules}
use Rattle.jr_model.specs.History.{role_after}
use Rattle.jr_steps.specs.Acts.{act_of_entry}
use Rattle.jr_rule.proofs.ActEffects.{entered_fresh}
use Rattle.jr_rule.proofs.GateOwed.{enters}
use Rattle.jr_rule.proofs.Told.{entry}
use Rattle.jr_rule.proofs.StepTaken.{its_acts, known_any, leaves, owing, stood, took}
use Rattle.jr_rule.proofs.over.StepsOverSteps.go_in.Goals as goal

pub add-found-requires-clause-owed : goal.add-found-requires-clause-owed
add-found-requires-clause-owed g c = let s = c.args.self.now in
    owing s c.requires (known_any s) (search rules) (λ k among role m. enters k role)

pub invariant_of-self : goal.invariant_of-self
invariant_of-self g c =
    let s = c.args.self.now in
    let left = leaves (entry _ true c.is_closed.ensures c.if-is_closed.true)
    (λ k. ap (λ r. role_after r (act_of_entry false)) (sym c.requires)) (λ k. entered_fresh false s.fresh) in
    stood s c.requires (known_any s) c.add-found.ensures.there c.add-found.ensures.step left

pub returns-then-is_closed-clause-step : goal.returns-then-is_closed-clause-step
returns-then-is_closed-clause-step g c =
    let s = c.args.self.now in
    took s _ c.add-found.ensures.step refl c.requires _ (entry _ true c.is_closed.ensures c.if-is_closed.true)
    (ap (λ r. role_after r (act_of_entry false)) (sym c.requires)) (entered_fresh false s.fresh)

pub returns-then-is_closed-clause-seen : goal.returns-then-is_closed-clause-seen
returns-then-is_closed-clause-seen g c =
    let s = c.args.self.now in
    c.add-found.ensures.seen _ (its_acts (entry _ true c.is_closed.ensures c.if-is_closed.true))

pub invariant_of-self-else-is_closed : goal.invariant_of-self-else-is_closed
invariant_of-self-else-is_closed g c =
    let s = c.args.self.now in
    let left = leaves (entry _ false c.is_closed.ensures c.if-is_closed.false)
    (λ k. ap (λ r. role_after r (act_of_entry true)) (sym c.requires)) (λ k. entered_fresh true s.fresh) in
    stood s c.requires (known_any s) c.add-found.ensures.there c.add-found.ensures.step left

pub returns-clause-step : goal.returns-clause-step
returns-clause-step g c =
    let s = c.args.self.now in
    took s _ c.add-found.ensures.step refl c.requires _ (entry _ false c.is_closed.ensures c.if-is_closed.false)
    (ap (λ r. role_after r (act_of_entry true)) (sym c.requires)) (entered_fresh true s.fresh)

pub returns-clause-seen : goal.returns-clause-seen
returns-clause-seen g c =
    let s = c.args.self.now in
    c.add-found.ensures.seen _ (its_acts (entry _ false c.is_closed.ensures c.if-is_closed.false))
