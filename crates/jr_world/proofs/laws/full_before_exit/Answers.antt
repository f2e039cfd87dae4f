use Rattle.jr_world.proofs.Fullness.{full_before_exit}
use Rattle.jr_world.proofs.laws.full_before_exit.Goals as goal

pub returns : goal.returns
returns c = full_before_exit
