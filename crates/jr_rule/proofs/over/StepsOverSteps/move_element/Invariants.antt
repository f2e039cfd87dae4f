use Rattle.jr_steps.specs.Collecting.{CanMove}
use Rattle.jr_rule.proofs.Told.{Moved, collecting}
use Rattle.jr_rule.proofs.over.StepsOverSteps.move_element.Given as goal

abbrev pub ghosts-store : goal.ghosts-store
ghosts-store g a =
    collecting (CanMove a._about.0 a._about.1 a._about.2 a._about.3 a.new) (Moved a._about.0 a._about.2 a._about.3)
