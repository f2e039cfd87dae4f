use Rattle.jr_frames.proofs.Dropping.{calls_dropped}
use Rattle.jr_env.proofs.Served.{forgets}
use Rattle.jr_env.proofs.calls.frames.FreeLocalsNativeCall.work.Goals as goal

pub returns-clause-call : goal.returns-clause-call
returns-clause-call g c = forgets (calls_dropped c.free_all.ensures.call)
