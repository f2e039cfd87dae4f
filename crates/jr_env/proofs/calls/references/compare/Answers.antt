use Rattle.jr_frames.specs.Reading.{word_of}
use Rattle.jr_frames.proofs.ResolutionOfBoth.{compares_refused, compares}
use Rattle.jr_env.proofs.Served.{forgets}
use Rattle.jr_env.proofs.calls.references.compare.Goals as goal

pub returns-in_err-first : goal.returns-in_err-first
returns-in_err-first g c = (
  word_of c.of-left.result,
  word_of c.of-right.result,
  c.of-left.ensures.reads,
  c.of-right.ensures.reads,
  forgets (compares_refused c.from_residual.result c.from_residual.ensures.1 c.in_err-first.ensures),
)

pub returns : goal.returns
returns g c = (
  word_of c.of-left.result,
  word_of c.of-right.result,
  c.of-left.ensures.reads,
  c.of-right.ensures.reads,
  forgets (compares c.eq.ensures c.in_ok-first.ensures),
)
