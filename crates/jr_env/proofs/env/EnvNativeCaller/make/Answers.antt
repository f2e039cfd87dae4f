use Rattle.std.proofs.Common.{sym}
use Rattle.jr_frames.proofs.StillReady.{ready_entered, ready_left}
use Rattle.jr_env.proofs.EndedStays.{can_call}
use Rattle.jr_env.proofs.OpenStays.{shut_ready}
use Rattle.jr_env.proofs.Served.{does_barred, did_served, does_served, own_as, ready_served}
use Rattle.jr_env.proofs.env.EnvNativeCaller.make.Goals as goal

pub returns-in_err-inside : goal.returns-in_err-inside
returns-in_err-inside g c = does_barred g.met.S.Steps.fits (g.C.NativeCall.request c.args.call)
    c.from_residual.result c.outside.ensures c.from_residual.ensures.1 c.in_err-inside.ensures.err

pub work-answer-requires-clause-ready : goal.work-answer-requires-clause-ready
work-answer-requires-clause-ready g c = ready_entered c.outside.ensures.ready c.in_ok-inside.ensures.ok.1

pub leave-requires : goal.leave-requires
leave-requires g c = own_as c.in_ok-inside.ensures.ok.0 (did_served g.met.S.Steps.fits
    (g.C.NativeCall.request c.args.call) c.work-answer.result c.work-answer.ensures.call).stands_is

pub leave-requires-in-Err : goal.leave-requires-in-Err
leave-requires-in-Err g c = own_as c.in_ok-inside.ensures.ok.0 (did_served g.met.S.Steps.fits
    (g.C.NativeCall.request c.args.call) c.work-answer.result c.work-answer.ensures.call).stands_is

pub returns-in-Ok : goal.returns-in-Ok
returns-in-Ok g c = rw (sym c.in-Ok.is) (does_served g.met.S.Steps.fits (g.C.NativeCall.request c.args.call)
    c.work-answer.result c.outside.ensures c.in_ok-inside.ensures.ok.1 c.work-answer.ensures.call
    c.work-answer.ensures.same c.leave.ensures)

pub returns-in-Err : goal.returns-in-Err
returns-in-Err g c = rw (sym c.in-Err.is) (does_served g.met.S.Steps.fits (g.C.NativeCall.request c.args.call)
    c.work-answer.result c.outside.ensures c.in_ok-inside.ensures.ok.1 c.work-answer.ensures.call
    c.work-answer.ensures.same c.leave-in-Err.ensures)

-- the gate was shut
pub invariant_of-held : goal.invariant_of-held
invariant_of-held g c =
    record { own = (shut_ready _ _ _ _ c.outside.ensures.ready c.in_err-inside.ensures.err.1).own }

pub invariant_of-held-in-Ok : goal.invariant_of-held-in-Ok
invariant_of-held-in-Ok g c = record {
  own = (ready_left (ready_served (g.C.NativeCall.request c.args.call) c.work-answer.result
      (ready_entered c.outside.ensures.ready c.in_ok-inside.ensures.ok.1) c.work-answer.ensures.same
      c.work-answer.ensures.call) c.leave.ensures).own;
}

pub invariant_of-held-in-Err : goal.invariant_of-held-in-Err
invariant_of-held-in-Err g c = record {
  own = (ready_left (ready_served (g.C.NativeCall.request c.args.call) c.work-answer.result
      (ready_entered c.outside.ensures.ready c.in_ok-inside.ensures.ok.1) c.work-answer.ensures.same
      c.work-answer.ensures.call) c.leave-in-Err.ensures).own;
}

pub invariant_of-self-in-Ok : goal.invariant_of-self-in-Ok
invariant_of-self-in-Ok g c = record {
  ready = can_call (ready_left (ready_served (g.C.NativeCall.request c.args.call) c.work-answer.result
      (ready_entered c.outside.ensures.ready c.in_ok-inside.ensures.ok.1) c.work-answer.ensures.same
      c.work-answer.ensures.call) c.leave.ensures);
}

pub invariant_of-self-in-Err : goal.invariant_of-self-in-Err
invariant_of-self-in-Err g c = record {
  ready = can_call (ready_left (ready_served (g.C.NativeCall.request c.args.call) c.work-answer.result
      (ready_entered c.outside.ensures.ready c.in_ok-inside.ensures.ok.1) c.work-answer.ensures.same
      c.work-answer.ensures.call) c.leave-in-Err.ensures);
}
