use Rattle.jr_world.proofs.Stories.{stories_run}
use Rattle.jr_world.proofs.laws.stories_run.Goals as goal

pub returns : goal.returns
returns g c = stories_run
