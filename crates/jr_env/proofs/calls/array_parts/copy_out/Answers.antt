use Rattle.std.proofs.Common.{length, map}
use Rattle.jr_frames.proofs.StillReady.{ready_entered, ready_left, same_owner}
use Rattle.jr_env.specs.Deeds.{read_answer}
use Rattle.jr_env.specs.Requests.{for_get_array_region}
use Rattle.jr_env.proofs.ArrayParts.{no_words}
use Rattle.jr_env.proofs.EndedStays.{can_call}
use Rattle.jr_env.proofs.OpenStays.{shut_ready}
use Rattle.jr_env.proofs.Served.{did_served, does_barred, does_served, own_as, ready_served}
use Rattle.jr_env.proofs.calls.array_parts.copy_out.Goals as goal

pub returns-in_err-inside-clause-call : goal.returns-in_err-inside-clause-call
returns-in_err-inside-clause-call g c =
    let words = map g.E.Elem.word_of c.args.elements.now in
    does_barred g.met.S.Steps.fits (for_get_array_region g.E.Elem.KIND c.args.array.0 c.args.start
    (length c.args.elements.now))
    (read_answer c.from_residual.result words) c.outside.ensures
    (no_words _ c.from_residual.result words c.from_residual.ensures.1) c.in_err-inside.ensures.err

pub returns-in_err-inside-clause-next : goal.returns-in_err-inside-clause-next
returns-in_err-inside-clause-next g c =
    can_call (shut_ready _ _ _ _ c.outside.ensures.ready c.in_err-inside.ensures.err.1)

pub read_into-answer-requires-clause-ready : goal.read_into-answer-requires-clause-ready
read_into-answer-requires-clause-ready g c = ready_entered c.outside.ensures.ready c.in_ok-inside.ensures.ok.1

pub leave-requires : goal.leave-requires
leave-requires g c = own_as c.in_ok-inside.ensures.ok.0 (did_served g.met.S.Steps.fits
    (for_get_array_region g.E.Elem.KIND c.args.array.0 c.args.start (length c.args.elements.now))
    (read_answer c.read_into-answer.result (map g.E.Elem.word_of c.read_into-answer.new.elements))
    c.read_into-answer.ensures.call).stands_is

pub returns-clause-call : goal.returns-clause-call
returns-clause-call g c = does_served g.met.S.Steps.fits
    (for_get_array_region g.E.Elem.KIND c.args.array.0 c.args.start (length c.args.elements.now))
    (read_answer c.read_into-answer.result (map g.E.Elem.word_of c.read_into-answer.new.elements))
    c.outside.ensures c.in_ok-inside.ensures.ok.1 c.read_into-answer.ensures.call
    (same_owner c.outside.new.held.frames) c.leave.ensures

pub returns-clause-next : goal.returns-clause-next
returns-clause-next g c = can_call (ready_left (ready_served
    (for_get_array_region g.E.Elem.KIND c.args.array.0 c.args.start
    (length c.args.elements.now)) (read_answer c.read_into-answer.result
    (map g.E.Elem.word_of c.read_into-answer.new.elements))
    (ready_entered c.outside.ensures.ready c.in_ok-inside.ensures.ok.1) (same_owner c.outside.new.held.frames)
    c.read_into-answer.ensures.call) c.leave.ensures)

-- the gate was shut
pub invariant_of-held : goal.invariant_of-held
invariant_of-held g c =
    record { own = (shut_ready _ _ _ _ c.outside.ensures.ready c.in_err-inside.ensures.err.1).own }

pub invariant_of-held-2 : goal.invariant_of-held-2
invariant_of-held-2 g c = record {
  own = (ready_left (ready_served (for_get_array_region g.E.Elem.KIND c.args.array.0 c.args.start
      (length c.args.elements.now)) (read_answer c.read_into-answer.result
      (map g.E.Elem.word_of c.read_into-answer.new.elements))
      (ready_entered c.outside.ensures.ready c.in_ok-inside.ensures.ok.1) (same_owner c.outside.new.held.frames)
      c.read_into-answer.ensures.call) c.leave.ensures).own;
}
