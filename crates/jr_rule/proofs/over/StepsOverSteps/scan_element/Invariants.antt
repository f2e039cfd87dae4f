use Rattle.jr_steps.specs.Collecting.{IsThere}
use Rattle.jr_rule.proofs.Told.{ScannedElement, collecting}
use Rattle.jr_rule.proofs.over.StepsOverSteps.scan_element.Given as goal

abbrev pub ghosts-load : goal.ghosts-load
ghosts-load g a = collecting (IsThere a._about.0 a._about.1 a._about.2) (ScannedElement a._about.0 a._about.2)
