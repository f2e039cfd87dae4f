use Rattle.std.proofs.Common.{rules, refl, sym, subst, ◌≡◌, ◌⊎◌}
use Rattle.jr_model.specs.declared.event.Role.TheVariants.{Within, Knocking}
use Rattle.jr_model.specs.declared.event.Role.{Role}
use Rattle.jr_rule.proofs.ActEffects.{left_role, left_fresh}
use Rattle.jr_rule.proofs.GateOwed.{leaves as leaving}
use Rattle.jr_rule.proofs.Told.{exit}
use Rattle.jr_rule.proofs.StepTaken.{its_acts, known_any, leaves, owing, stood, took}
use Rattle.jr_rule.proofs.over.StepsOverSteps.go_out.Goals as goal

pub take-requires-clause-owed : goal.take-requires-clause-owed
take-requires-clause-owed g c =
    let s = c.args.self.now in
    owing s refl (known_any s) (search rules) (λ k among role m.
    leaving k (subst (λ (r : Role). (r ≡ Within) ⊎ (r ≡ Knocking)) (sym role) c.requires))

pub invariant_of-self : goal.invariant_of-self
invariant_of-self g c =
    let s = c.args.self.now in
    let left = leaves (exit s.role) (λ k. left_role s.role c.requires) (λ k. left_fresh s.role s.fresh) in
    stood s refl (known_any s) c.take.ensures.there c.take.ensures.step left

pub returns-clause-step : goal.returns-clause-step
returns-clause-step g c = let s = c.args.self.now in
    took s _ c.take.ensures.step refl refl _ (exit s.role) (left_role s.role c.requires) (left_fresh s.role s.fresh)

pub returns-clause-seen : goal.returns-clause-seen
returns-clause-seen g c = let s = c.args.self.now in c.take.ensures.seen _ (its_acts {n = c.take.result} (exit s.role))
