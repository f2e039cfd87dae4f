use Rattle.jr_alive.proofs.Told.{alive_told}
use Rattle.jr_alive.proofs.laws.dumps_tell_what_is_reached.Goals as goal

pub returns : goal.returns
returns cc c last es d legal room is = alive_told c last es d legal room is
