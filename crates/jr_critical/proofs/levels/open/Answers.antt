use Rattle.jr_frames.specs.Reading.{word_of}
use Rattle.jr_frames.proofs.StillReady.{ready_entered}
use Rattle.jr_critical.proofs.Opening.{opens, opens_barred, opens_not, one_level}
use Rattle.jr_critical.proofs.Opening.{ready_barred, ready_not, ready_opened, stands}
use Rattle.jr_critical.proofs.levels.open.Goals as goal

pub invariant_of-held : goal.invariant_of-held
invariant_of-held g c = record {
  own = (ready_barred c.args.wanted (word_of c.of-target.result) c.requires c.in_err-inside.field-0.0
      c.in_err-inside.ensures.err).own;
}

pub returns-in_err-inside-clause-call : goal.returns-in_err-inside-clause-call
returns-in_err-inside-clause-call g c = (
  word_of c.of-target.result,
  c.of-target.ensures.reads,
  opens_barred c.args.wanted (word_of c.of-target.result) c.requires c.from_residual.result c.from_residual.ensures.1
      c.in_err-inside.ensures.err,
)

pub find_level-requires-clause-ready : goal.find_level-requires-clause-ready
find_level-requires-clause-ready g c = ready_entered c.requires c.in_ok-inside.ensures.ok.1

pub invariant_of-held-in-Ok-1 : goal.invariant_of-held-in-Ok-1
invariant_of-held-in-Ok-1 g c = record {
  own = (ready_opened c.args.wanted (word_of c.of-target.result) c.requires c.in_ok-inside.ensures.ok.1
      c.in-Ok.ensures.call).own;
}

pub invariant_of-held-in-Err : goal.invariant_of-held-in-Err
invariant_of-held-in-Err g c = record {
  own = (ready_not c.args.wanted (word_of c.of-target.result) c.requires g.met.S.Steps.fits c.in_ok-inside.ensures.ok.1
      c.in-Err.ensures.call c.leave.ensures).own;
}

pub returns-in-Ok-clause-call : goal.returns-in-Ok-clause-call
returns-in-Ok-clause-call g c = (
  word_of c.of-target.result,
  c.of-target.ensures.reads,
  opens c.args.wanted (word_of c.of-target.result) c.requires c.in_ok-inside.ensures.ok.1 c.in-Ok.ensures.call
      c.first.result c.first.ensures.levels,
)

pub returns-in-Ok-clause-ok : goal.returns-in-Ok-clause-ok
returns-in-Ok-clause-ok g c = (
  stands c.args.wanted (word_of c.of-target.result) c.requires c.in_ok-inside.ensures.ok.1 c.in-Ok.ensures.call
      c.first.result c.first.ensures.levels c.in_ok-inside.inside c.in_ok-inside.ensures.ok.0 c.first.ensures.inside,
  one_level c.args.wanted (word_of c.of-target.result) c.requires c.in_ok-inside.ensures.ok.1 c.in-Ok.ensures.call
      c.first.result c.first.ensures.levels,
)

pub returns-in-Err-clause-call : goal.returns-in-Err-clause-call
returns-in-Err-clause-call g c = (
  word_of c.of-target.result,
  c.of-target.ensures.reads,
  opens_not c.args.wanted (word_of c.of-target.result) c.requires g.met.S.Steps.fits c.in_ok-inside.ensures.ok.1
      c.in-Err.ensures.call c.leave.ensures,
)

pub returns-in-Err-clause-err : goal.returns-in-Err-clause-err
returns-in-Err-clause-err g c = ready_not c.args.wanted (word_of c.of-target.result) c.requires g.met.S.Steps.fits
    c.in_ok-inside.ensures.ok.1 c.in-Err.ensures.call c.leave.ensures
