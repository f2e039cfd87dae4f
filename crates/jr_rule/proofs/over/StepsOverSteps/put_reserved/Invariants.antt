use Rattle.jr_steps.specs.Knowing.{HasWord}
use Rattle.jr_rule.proofs.Told.{PutOwn, within}
use Rattle.jr_rule.proofs.over.StepsOverSteps.put_reserved.Given as goal

abbrev pub ghosts-store : goal.ghosts-store
ghosts-store g a = within (HasWord a._about.0 a._about.1) (PutOwn a._about.0 a._about.1 a.new)
