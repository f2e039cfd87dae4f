use Rattle.jr_steps.specs.Knowing.{anything}
use Rattle.jr_rule.proofs.Told.{ScannedSlot, collecting}
use Rattle.jr_rule.proofs.over.StepsOverSteps.scan_slot.Given as goal

abbrev pub ghosts-load : goal.ghosts-load
ghosts-load g a = collecting anything (ScannedSlot a._about)
