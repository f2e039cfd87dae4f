use Rattle.jr_steps.specs.Knowing.{HasObject, IsFreeSlot}
use Rattle.jr_rule.proofs.Told.{Claimed, within}
use Rattle.jr_rule.proofs.over.StepsOverSteps.claim.Given as goal

abbrev pub ghosts-exchange : goal.ghosts-exchange
ghosts-exchange g a =
    within (λ k. HasObject a._about.3 k × IsFreeSlot a._about.0 a._about.1 k)
    (Claimed a._about.0 a._about.1 a._about.2 a._about.3)
