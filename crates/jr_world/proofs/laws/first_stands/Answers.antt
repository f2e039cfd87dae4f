use Rattle.jr_world.proofs.Schedules.{first_stands}
use Rattle.jr_world.proofs.laws.first_stands.Goals as goal

pub returns : goal.returns
returns c = first_stands
