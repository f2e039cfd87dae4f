use Rattle.jr_frames.specs.Reading.{word_of}
use Rattle.jr_frames.proofs.StillReady.{ready_entered}
use Rattle.jr_env.proofs.EndedStays.{can_call}
use Rattle.jr_env.proofs.ExplainedWords.{seen_barred, seen_whole, ready_behind, ready_barred}
use Rattle.jr_env.specs.Words.{explanation_of}
use Rattle.jr_env.proofs.FrameCalls.{does_from}
use Rattle.jr_env.proofs.calls.explaining.explain_whole.Goals as goal

pub invariant_of-held : goal.invariant_of-held
invariant_of-held g c = record {
  own = (ready_barred g.met.S.Steps.fits c.outside.ensures.ready c.in_err-inside.ensures.err).own;
}

pub returns-in_err-inside-clause-call : goal.returns-in_err-inside-clause-call
returns-in_err-inside-clause-call g c = seen_barred g.met.S.Steps.fits (explanation_of (word_of c.args.target))
    (word_of c.args.target) c.from_residual.result c.outside.ensures c.from_residual.ensures.1
    c.in_err-inside.ensures.err

pub explain-told-requires-clause-ready : goal.explain-told-requires-clause-ready
explain-told-requires-clause-ready g c = ready_entered c.outside.ensures.ready c.in_ok-inside.ensures.ok.1

pub invariant_of-held-2 : goal.invariant_of-held-2
invariant_of-held-2 g c = record {
  own = (ready_behind g.met.S.Steps.fits (explanation_of (word_of c.args.target))
      (ready_entered c.outside.ensures.ready c.in_ok-inside.ensures.ok.1) c.explain-told.ensures c.leave.ensures).own;
}

pub returns-clause-call : goal.returns-clause-call
returns-clause-call g c = does_from c.outside.ensures (seen_whole g.met.S.Steps.fits
    (explanation_of (word_of c.args.target))
    c.outside.new.held.frames.frames (word_of c.args.target) c.explain-told.result c.outside.ensures.ready.role_is
    c.in_ok-inside.ensures.ok.1 c.explain-told.ensures c.leave.ensures)

pub returns-clause-next : goal.returns-clause-next
returns-clause-next g c = can_call (ready_behind g.met.S.Steps.fits (explanation_of (word_of c.args.target))
    (ready_entered c.outside.ensures.ready c.in_ok-inside.ensures.ok.1) c.explain-told.ensures c.leave.ensures)
