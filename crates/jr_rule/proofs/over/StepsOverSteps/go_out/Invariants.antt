use Rattle.jr_steps.specs.Knowing.{anything}
use Rattle.jr_rule.proofs.Told.{Exited, in_role}
use Rattle.jr_rule.proofs.over.StepsOverSteps.go_out.Given as goal

abbrev pub ghosts-take : goal.ghosts-take
ghosts-take g a = in_role a._about anything Exited
