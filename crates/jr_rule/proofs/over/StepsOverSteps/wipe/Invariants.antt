use Rattle.jr_steps.specs.Collecting.{CanWipe}
use Rattle.jr_rule.proofs.Told.{Wiped, collecting}
use Rattle.jr_rule.proofs.over.StepsOverSteps.wipe.Given as goal

abbrev pub ghosts-exchange : goal.ghosts-exchange
ghosts-exchange g a = collecting (CanWipe a._about.0 a._about.1 a._about.2) (Wiped a._about.0 a._about.1)
