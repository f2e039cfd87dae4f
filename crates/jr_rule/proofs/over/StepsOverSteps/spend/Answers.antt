use Rattle.jr_rule.proofs.StepTaken.{standing_spent}
use Rattle.jr_rule.proofs.over.StepsOverSteps.spend.Goals as goal

pub invariant_of-self : goal.invariant_of-self
invariant_of-self g c = let s = c.args.self.now in record { at = c.args.self.now.at; stands = standing_spent s.stands }
