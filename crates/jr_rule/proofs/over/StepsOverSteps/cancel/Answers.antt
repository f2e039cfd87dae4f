use Rattle.std.proofs.Common.{rules, refl}
use Rattle.jr_rule.proofs.GateOwed.{takes_back}
use Rattle.jr_rule.proofs.Told.{cancelled}
use Rattle.jr_rule.proofs.StepTaken.{its_acts, known_any, leaves, owing, stood, took}
use Rattle.jr_rule.proofs.over.StepsOverSteps.cancel.Goals as goal

pub take-requires-clause-owed : goal.take-requires-clause-owed
take-requires-clause-owed g c = let s = c.args.self.now in
    owing s c.requires (known_any s) (search rules) (λ k among role m. takes_back k role)

pub invariant_of-self : goal.invariant_of-self
invariant_of-self g c = let s = c.args.self.now in stood s c.requires (known_any s)
    c.take.ensures.there c.take.ensures.step (leaves cancelled (λ k. refl) (λ k. refl))

pub returns-clause-step : goal.returns-clause-step
returns-clause-step g c = let s = c.args.self.now in took s _ c.take.ensures.step refl c.requires _ cancelled refl refl

pub returns-clause-seen : goal.returns-clause-seen
returns-clause-seen g c = let s = c.args.self.now in c.take.ensures.seen _ (its_acts {n = c.take.result} cancelled)
