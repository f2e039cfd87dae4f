use Rattle.jr_world.proofs.Schedules.{runs_by_a_schedule}
use Rattle.jr_world.proofs.laws.runs_by_a_schedule.Goals as goal

pub returns : goal.returns
returns g c = runs_by_a_schedule
