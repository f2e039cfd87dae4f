use Rattle.jr_steps.specs.Collecting.{CanDrop}
use Rattle.jr_rule.proofs.Told.{Dropped, collecting}
use Rattle.jr_rule.proofs.over.StepsOverSteps.drop_header.Given as goal

abbrev pub ghosts-store : goal.ghosts-store
ghosts-store g a = collecting (CanDrop a._about) (Dropped a._about)
