use Rattle.jr_steps.specs.Knowing.{anything}
use Rattle.jr_rule.proofs.Told.{SawGate, in_role}
use Rattle.jr_rule.proofs.over.StepsOver.look.Given as goal

abbrev pub ghosts-load : goal.ghosts-load
ghosts-load g a = in_role a._about.1 anything (SawGate a._about.0)
