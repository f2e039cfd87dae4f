use Rattle.jr_steps.specs.Knowing.{HasLooked}
use Rattle.jr_steps.specs.Acts.{found_of}
use Rattle.jr_rule.proofs.Told.{Freed, within}
use Rattle.jr_rule.proofs.over.StepsOverSteps.free.Given as goal

abbrev pub ghosts-exchange : goal.ghosts-exchange
ghosts-exchange g a = within (HasLooked a._about.0 (found_of a._about.1)) (Freed a._about.0 a.old)
