use Rattle.jr_steps.specs.Knowing.{anything}
use Rattle.jr_rule.proofs.Told.{ScannedLocal, collecting}
use Rattle.jr_rule.proofs.over.StepsOverSteps.scan_local.Given as goal

abbrev pub ghosts-load : goal.ghosts-load
ghosts-load g a = collecting anything (ScannedLocal a._about.0 a._about.1)
