use Rattle.jr_steps.specs.Knowing.{anything}
use Rattle.jr_rule.proofs.Told.{SawTop, within}
use Rattle.jr_rule.proofs.over.StepsOverSteps.see_top.Given as goal

abbrev pub ghosts-load : goal.ghosts-load
ghosts-load g a = within anything (SawTop a._about)
