use Rattle.jr_word.specs.declared.gate.GateState.TheVariants.{Open}
use Rattle.jr_model.specs.declared.event.Role.TheVariants.{Outside}
use Rattle.jr_steps.specs.Knowing.{anything}
use Rattle.jr_rule.proofs.Told.{Barred, in_role}
use Rattle.jr_rule.proofs.over.StepsOverSteps.bar.Given as goal

abbrev pub ghosts-exchange : goal.ghosts-exchange
ghosts-exchange g a = in_role Outside anything (Barred Open)
