use Rattle.std.proofs.Common.{◌≤◌, length, ap, refl, sym, Err, Ok, ◌∙◌}
use Rattle.jr_model.specs.Calls.{◌>>=◌}
use Rattle.jr_model.specs.References.{popping, resolved}
use Rattle.jr_model.proofs.Updates.{eq_true}
use Rattle.jr_frames.specs.Reading.{word_of}
use Rattle.jr_env.proofs.NewReference.{creates_refused}
use Rattle.jr_frames.proofs.NewLocal.{creates_by, may_find_both, ready_resolved}
use Rattle.jr_frames.proofs.PopResult.{pops_above, pops_no_frame, two_frames}
use Rattle.jr_env.proofs.EnvCalls.{packed_if_is}
use Rattle.jr_env.proofs.Served.{forgets, refused_is}
use Rattle.jr_env.proofs.calls.frames.PopLocalFrameNativeCall.work.Goals as goal

pub returns-then-is_base-clause-call : goal.returns-then-is_base-clause-call
returns-then-is_base-clause-call g c =
    let s = (g.S.Steps.facts c.args.steps.now).stands in (
      Err _,
      refl,
      (
        word_of c.of-target.result,
        c.of-target.ensures.reads,
        forgets (pops_no_frame g.met.S.Steps.fits
            c.args.steps.now c.args.frames.now.frames (resolved s.config s.last s.thread (word_of c.of-target.result)
            >>= popping s.config s.last s.thread)
            (eq_true _ 1 (sym c.is_base.ensures ∙ c.if-is_base.true))),
      ),
    )

pub returns-in_err-object-clause-call : goal.returns-in_err-object-clause-call
returns-in_err-object-clause-call g c =
    let s = (g.S.Steps.facts c.args.steps.now).stands in
    let above : 2 ≤ length c.args.frames.now.frames.frames =
    two_frames _ _ c.are_sound.ensures.some_frame c.is_base.ensures c.if-is_base.false in (
      Err _,
      refused_is c.from_residual.result c.from_residual.ensures.1,
      (
        word_of c.of-target.result,
        c.of-target.ensures.reads,
        forgets (pops_above (resolved s.config s.last s.thread (word_of c.of-target.result)
            >>= popping s.config s.last s.thread) above
            (creates_refused (popping s.config s.last s.thread) (Err _) refl c.in_err-object.ensures)),
      ),
    )

pub pop_frame-requires-clause-ready : goal.pop_frame-requires-clause-ready
pop_frame-requires-clause-ready g c = ready_resolved c.requires.ready c.in_ok-object.ensures

pub pop_frame-requires-clause-object : goal.pop_frame-requires-clause-object
pop_frame-requires-clause-object g c = may_find_both c.in_ok-object.ensures c.requires.ready.own.agrees

pub returns-in_err-made-clause-call : goal.returns-in_err-made-clause-call
returns-in_err-made-clause-call g c =
    let s = (g.S.Steps.facts c.args.steps.now).stands in
    let above : 2 ≤ length c.args.frames.now.frames.frames =
    two_frames _ _ c.are_sound.ensures.some_frame c.is_base.ensures c.if-is_base.false in (
      Err _,
      refused_is c.from_residual-in_err-made.result c.from_residual-in_err-made.ensures.1,
      (
        word_of c.of-target.result,
        c.of-target.ensures.reads,
        forgets (pops_above (resolved s.config s.last s.thread (word_of c.of-target.result)
            >>= popping s.config s.last s.thread) above
            (creates_by popping c.in_ok-object.ensures c.in_err-made.ensures.call)),
      ),
    )

pub returns-clause-call : goal.returns-clause-call
returns-clause-call g c =
    let s = (g.S.Steps.facts c.args.steps.now).stands in
    let above : 2 ≤ length c.args.frames.now.frames.frames =
    two_frames _ _ c.are_sound.ensures.some_frame c.is_base.ensures c.if-is_base.false in (
      Ok _,
      ap (λ x. Ok x) (packed_if_is c.map.result c.in_ok-made.made c.map.ensures.cases),
      (
        word_of c.of-target.result,
        c.of-target.ensures.reads,
        forgets (pops_above (resolved s.config s.last s.thread (word_of c.of-target.result)
            >>= popping s.config s.last s.thread) above
            (creates_by popping c.in_ok-object.ensures c.in_ok-made.ensures.call)),
      ),
    )
