use Rattle.jr_model.specs.Checks.{Nothing}
use Rattle.jr_frames.proofs.StillReady.{ready_entered}
use Rattle.jr_env.specs.UsedWords.{AreUsed}
use Rattle.jr_env.proofs.EndedStays.{can_call}
use Rattle.jr_env.proofs.ExplainedWords.{seen_barred, seen_whole, ready_behind, ready_barred}
use Rattle.jr_env.proofs.FrameCalls.{does_from}
use Rattle.jr_env.proofs.UsedLook.{used_seen}
use Rattle.jr_env.proofs.calls.numbers.used_whole.Goals as goal

pub invariant_of-held : goal.invariant_of-held
invariant_of-held g c = record {
  own = (ready_barred g.met.S.Steps.fits c.outside.ensures.ready c.in_err-inside.ensures.err).own;
}

pub returns-in_err-inside-clause-call : goal.returns-in_err-inside-clause-call
returns-in_err-inside-clause-call g c = seen_barred g.met.S.Steps.fits AreUsed Nothing
    c.from_residual.result c.outside.ensures c.from_residual.ensures.1 c.in_err-inside.ensures.err

pub see_top-used-requires : goal.see_top-used-requires
see_top-used-requires g c = (ready_entered c.outside.ensures.ready c.in_ok-inside.ensures.ok.1).role_is

pub invariant_of-held-2 : goal.invariant_of-held-2
invariant_of-held-2 g c =
    let ready = ready_entered c.outside.ensures.ready c.in_ok-inside.ensures.ok.1 in
    record {
      own = (ready_behind g.met.S.Steps.fits AreUsed ready (used_seen g.met.S.Steps.fits
          c.outside.new.held.frames.frames c.see_top-used.result ready.role_is c.see_top-used.ensures)
          c.leave.ensures).own;
    }

pub returns-clause-call : goal.returns-clause-call
returns-clause-call g c =
    let ready = ready_entered c.outside.ensures.ready c.in_ok-inside.ensures.ok.1 in
    does_from c.outside.ensures (seen_whole g.met.S.Steps.fits AreUsed c.outside.new.held.frames.frames Nothing
    c.see_top-used.result c.outside.ensures.ready.role_is c.in_ok-inside.ensures.ok.1 (used_seen g.met.S.Steps.fits
    c.outside.new.held.frames.frames c.see_top-used.result ready.role_is c.see_top-used.ensures) c.leave.ensures)

pub returns-clause-next : goal.returns-clause-next
returns-clause-next g c =
    let ready = ready_entered c.outside.ensures.ready c.in_ok-inside.ensures.ok.1 in
    can_call (ready_behind g.met.S.Steps.fits AreUsed ready (used_seen g.met.S.Steps.fits
    c.outside.new.held.frames.frames c.see_top-used.result ready.role_is c.see_top-used.ensures) c.leave.ensures)
