use Rattle.jr_world.proofs.TogetherRuns.{players_run}
use Rattle.jr_world.proofs.laws.players_run.Goals as goal

pub returns : goal.returns
returns g c = players_run
