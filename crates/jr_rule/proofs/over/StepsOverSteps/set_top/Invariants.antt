use Rattle.jr_steps.specs.Collecting.{CanSettle}
use Rattle.jr_rule.proofs.Told.{SettledTop, collecting}
use Rattle.jr_rule.proofs.over.StepsOverSteps.set_top.Given as goal

abbrev pub ghosts-store : goal.ghosts-store
ghosts-store g a = collecting (CanSettle a._about) (SettledTop a._about)
