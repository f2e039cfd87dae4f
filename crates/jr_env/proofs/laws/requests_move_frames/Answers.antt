use Rattle.jr_env.proofs.Moving.{request_moves}
use Rattle.jr_env.proofs.laws.requests_move_frames.Goals as goal

pub returns : goal.returns
returns c e = request_moves (c.C.NativeCall.request e.args._call.now)
