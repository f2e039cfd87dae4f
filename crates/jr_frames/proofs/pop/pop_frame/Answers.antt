use Rattle.std.proofs.Common.{◌≡◌, None, subst, IfOk, IfSome}
use Rattle.jr_word.specs.declared.handle.RefKind.TheVariants.{Local}
use Rattle.jr_frames.proofs.Dropping.{ready_dropped, stay_dropped}
use Rattle.jr_frames.proofs.PopResult.{may_pop, pops, pops_full}
use Rattle.jr_frames.proofs.pop.pop_frame.Goals as goal

pub returns-then-not-has_place_for-clause-call : goal.returns-then-not-has_place_for-clause-call
returns-then-not-has_place_for-clause-call g c = let full = c.has_place_for.ensures.full c.if-not-has_place_for.true in
    pops_full g.met.S.Steps.fits c.args.steps.now c.args.frames.now.frames c.args.object c.args.frames.now.last
    c.requires.ready.own.last full.0 full.1

pub new_local-requires-clause-stay : goal.new_local-requires-clause-stay
new_local-requires-clause-stay g c = stay_dropped c.args.inside.now c.requires.stay c.take_newest.ensures.call

pub new_local-requires-clause-ready : goal.new_local-requires-clause-ready
new_local-requires-clause-ready g c =
    ready_dropped c.requires.ready c.take_newest.ensures.same c.take_newest.ensures.call

pub new_local-requires-clause-object : goal.new_local-requires-clause-object
new_local-requires-clause-object g c = may_pop c.args.object c.take_newest.ensures.call c.requires.object

pub returns-clause-call : goal.returns-clause-call
returns-clause-call g c = pops c.args.object c.args.frames.now.last c.requires.ready.own.last
    (c.has_place_for.ensures.room c.if-not-has_place_for.false) c.take_newest.ensures.call c.new_local.ensures.call

pub returns-clause-owner : goal.returns-clause-owner
returns-clause-owner g c =
    subst (λ t. IfOk c.new_local.result (λ made. IfSome made (λ h. (h.kind ≡ Local) × (h.owner ≡ t))))
    (c.take_newest.ensures.call None).stands_is.thread c.new_local.ensures.owner
