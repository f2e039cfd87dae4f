use Rattle.jr_steps.specs.Knowing.{KnowsHeader, IsWordNow}
use Rattle.jr_rule.proofs.Told.{PutElement, within}
use Rattle.jr_rule.proofs.over.StepsOverSteps.put_element.Given as goal

abbrev pub ghosts-store : goal.ghosts-store
ghosts-store g a =
    within (λ k. KnowsHeader a._about.0 a._about.1 k × IsWordNow (a._about.1).kind a.new k)
    (PutElement a._about.0 a._about.2 a.new)
