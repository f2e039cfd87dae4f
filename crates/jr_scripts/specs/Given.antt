-- For the crate's own functions: what a thread was given.
use Rattle.std.specs.Prelude.{◌≡◌}
use Rattle.jr_scripts.specs.declared.part.Job.{Job}
use Rattle.jr_scripts.specs.declared.starting.Doing.{Doing}
use Rattle.jr_rule.specs.declared.site.Site.{Ghosts}

-- the promise is of this job
pub record IsGiven {Q : Type 0} {G : Ghosts Q} (d : Doing Q G) (j : Job) : Type 0 where
  pub first : d.first ≡ j.task.first
  pub turns : d.turns ≡ j.task.turns
  pub commands : d.commands ≡ j.task.commands
  pub pass : d.pass.value ≡ j.pass
