use Rattle.jr_steps.specs.Knowing.{KnowsHeader}
use Rattle.jr_rule.proofs.Told.{SawElement, within}
use Rattle.jr_rule.proofs.over.StepsOverSteps.see_element.Given as goal

abbrev pub ghosts-load : goal.ghosts-load
ghosts-load g a = within (KnowsHeader a._about.0 a._about.1) (SawElement a._about.0 a._about.2)
