use Rattle.jr_model.specs.declared.event.Role.TheVariants.{Outside}
use Rattle.jr_steps.specs.Knowing.{anything}
use Rattle.jr_rule.proofs.Told.{Entered, in_role}
use Rattle.jr_rule.proofs.over.StepsOverSteps.go_in.Given as goal

abbrev pub ghosts-add : goal.ghosts-add
ghosts-add g a = in_role Outside anything Entered
