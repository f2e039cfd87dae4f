use Rattle.jr_model.proofs.EachCall.{calls_move_frames}
use Rattle.jr_model.proofs.laws.calls_move_frames.Goals as goal

pub returns : goal.returns
returns c = calls_move_frames
