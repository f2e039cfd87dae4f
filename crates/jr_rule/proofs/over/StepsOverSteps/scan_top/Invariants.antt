use Rattle.jr_steps.specs.Knowing.{anything}
use Rattle.jr_rule.proofs.Told.{ScannedTop, collecting}
use Rattle.jr_rule.proofs.over.StepsOverSteps.scan_top.Given as goal

abbrev pub ghosts-load : goal.ghosts-load
ghosts-load g a = collecting anything ScannedTop
