use Rattle.jr_steps.specs.Knowing.{HasOptional}
use Rattle.jr_rule.proofs.Told.{Put, within}
use Rattle.jr_rule.proofs.over.StepsOverSteps.put_local.Given as goal

abbrev pub ghosts-store : goal.ghosts-store
ghosts-store g a = within (HasOptional a._about.1) (Put a._about.0 a._about.1)
