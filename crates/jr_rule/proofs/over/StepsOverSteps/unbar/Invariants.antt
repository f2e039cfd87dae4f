use Rattle.jr_steps.specs.Knowing.{CanReopen}
use Rattle.jr_rule.proofs.Told.{Reopened, collecting}
use Rattle.jr_rule.proofs.over.StepsOverSteps.unbar.Given as goal

abbrev pub ghosts-take : goal.ghosts-take
ghosts-take g a = collecting CanReopen Reopened
