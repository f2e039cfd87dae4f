use Rattle.jr_steps.specs.Knowing.{anything}
use Rattle.jr_rule.proofs.Told.{SawSlot, within}
use Rattle.jr_rule.proofs.over.StepsOverSteps.see_slot.Given as goal

abbrev pub ghosts-load : goal.ghosts-load
ghosts-load g a = within anything (SawSlot a._about.0 a._about.1)
