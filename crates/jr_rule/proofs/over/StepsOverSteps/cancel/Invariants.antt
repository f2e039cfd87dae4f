use Rattle.jr_model.specs.declared.event.Role.TheVariants.{Announcing}
use Rattle.jr_steps.specs.Knowing.{anything}
use Rattle.jr_rule.proofs.Told.{Cancelled, in_role}
use Rattle.jr_rule.proofs.over.StepsOverSteps.cancel.Given as goal

abbrev pub ghosts-take : goal.ghosts-take
ghosts-take g a = in_role Announcing anything Cancelled
