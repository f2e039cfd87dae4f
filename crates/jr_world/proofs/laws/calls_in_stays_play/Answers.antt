use Rattle.jr_world.proofs.StayedCall.{calls_in_stays_play}
use Rattle.jr_world.proofs.EndingPlays.{parts_play}
use Rattle.jr_world.proofs.laws.calls_in_stays_play.Goals as goal

pub returns : goal.returns
returns c = calls_in_stays_play parts_play
