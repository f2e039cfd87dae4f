use Rattle.jr_world.proofs.OpenedCall.{opened_calls_play}
use Rattle.jr_world.proofs.EndingPlays.{parts_play}
use Rattle.jr_world.proofs.laws.opened_calls_play.Goals as goal

pub returns : goal.returns
returns c = opened_calls_play parts_play
