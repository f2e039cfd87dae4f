use Rattle.std.proofs.Common.{rules, refl}
use mathlib.Core.Logic.{∥∥₁_map}
use Rattle.std.proofs.Math.Logic.{∥∥₁_elim}
use Rattle.std.proofs.Props.{props}
use Rattle.jr_rule.proofs.GateOwed.{reopens}
use Rattle.jr_rule.proofs.Told.{reopening}
use Rattle.jr_rule.proofs.StepTaken.{its_acts, leaves, owing, stood, took}
use Rattle.jr_rule.proofs.over.StepsOverSteps.unbar.Goals as goal

pub take-requires-clause-owed : goal.take-requires-clause-owed
take-requires-clause-owed g c =
    let s = c.args.self.now in
    owing s c.requires.role c.requires.closed (search rules) (λ k among role m.
    reopens k role (∥∥₁_elim m (hlevel props) (λ q. q.1)) (∥∥₁_map m (λ q. q.0)))

pub invariant_of-self : goal.invariant_of-self
invariant_of-self g c = let s = c.args.self.now in stood s c.requires.role c.requires.closed
    c.take.ensures.there c.take.ensures.step (leaves reopening (λ k. refl) (λ k. refl))

pub returns-clause-step : goal.returns-clause-step
returns-clause-step g c = let s = c.args.self.now in
    took s _ c.take.ensures.step refl c.requires.role _ reopening refl refl

pub returns-clause-seen : goal.returns-clause-seen
returns-clause-seen g c = let s = c.args.self.now in c.take.ensures.seen _ (its_acts {n = c.take.result} reopening)
