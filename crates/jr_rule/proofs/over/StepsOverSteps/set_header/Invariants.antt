use Rattle.jr_steps.specs.Collecting.{CanPlace}
use Rattle.jr_rule.proofs.Told.{Placed, collecting}
use Rattle.jr_rule.proofs.over.StepsOverSteps.set_header.Given as goal

abbrev pub ghosts-store : goal.ghosts-store
ghosts-store g a = collecting (CanPlace a._about.0 a._about.1 a._about.2) (Placed a._about.0 a._about.1 a._about.2)
