use Rattle.jr_world.proofs.EachCall.{calls_play}
use Rattle.jr_world.proofs.EndingPlays.{parts_play}
use Rattle.jr_world.proofs.laws.calls_play.Goals as goal

pub returns : goal.returns
returns c = calls_play parts_play
