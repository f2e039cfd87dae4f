use Rattle.jr_frames.specs.Reading.{word_of}
use Rattle.jr_env.proofs.Served.{forgets}
use Rattle.jr_env.proofs.calls.references.GetObjectRefTypeNativeCall.work.Goals as goal

pub returns-clause-call : goal.returns-clause-call
returns-clause-call g c = (word_of c.of-target.result, c.of-target.ensures.reads, forgets c.type_of.ensures)
