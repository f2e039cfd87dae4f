use Rattle.jr_world.proofs.OutsideCall.{calls_outside_play}
use Rattle.jr_world.proofs.laws.calls_outside_play.Goals as goal

pub returns : goal.returns
returns c = calls_outside_play
