use Rattle.jr_steps.specs.Knowing.{IsFilled}
use Rattle.jr_rule.proofs.Told.{Published, within}
use Rattle.jr_rule.proofs.over.StepsOverSteps.claim_header.Given as goal

abbrev pub ghosts-exchange : goal.ghosts-exchange
ghosts-exchange g a = within (IsFilled a._about.1) (Published a._about.0 a._about.1)
