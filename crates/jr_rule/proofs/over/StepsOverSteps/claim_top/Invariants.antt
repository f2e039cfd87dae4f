use Rattle.jr_steps.specs.Knowing.{WasUsed}
use Rattle.jr_rule.proofs.Told.{ClaimedTop, within}
use Rattle.jr_rule.proofs.over.StepsOverSteps.claim_top.Given as goal

abbrev pub ghosts-exchange : goal.ghosts-exchange
ghosts-exchange g a = within (WasUsed a._about.0) (ClaimedTop a._about.0 a._about.1)
