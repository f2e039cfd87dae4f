use Rattle.std.proofs.Common.{sym, arith}
use Rattle.jr_frames.proofs.DroppingAll.{frees_nothing, frees_next, frees_one, frees_fewer}
use Rattle.jr_frames.proofs.DroppingAll.{frees_all, frees_none_left, frees_given}
use Rattle.jr_frames.proofs.Dropping.{stay_dropped}
use Rattle.jr_frames.proofs.free.empty_frames.Goals as goal

pub loop-frame-init : goal.loop-frame-init
loop-frame-init g c = frees_nothing g.met.S.Steps.fits c.requires.ready

pub loop-frame-smaller-in_default : goal.loop-frame-smaller-in_default
loop-frame-smaller-in_default g c = let depth = c.depth.ensures in let low = c.loop-frame-test.true in omega arith

pub loop-frame-preserved-in_default : goal.loop-frame-preserved-in_default
loop-frame-preserved-in_default g c = frees_next g.met.S.Steps.fits c.loop-frame.invariant
    (let depth = c.depth.ensures in let low = c.loop-frame-test.true in omega arith) c.in_default.ensures.empty

pub drop_local-requires-clause-stay : goal.drop_local-requires-clause-stay
drop_local-requires-clause-stay g c = stay_dropped c.args.inside.now c.requires.stay c.loop-frame.invariant.drops

pub drop_local-requires-clause-ready : goal.drop_local-requires-clause-ready
drop_local-requires-clause-ready g c = c.loop-frame.invariant.ready

pub loop-frame-smaller : goal.loop-frame-smaller
loop-frame-smaller g c = frees_fewer g.met.S.Steps.fits c.loop-frame.invariant c.drop_local.new.frames c.in-Some.handle
    (sym c.in-Some.ensures.oldest) c.in-Some.ensures.rest c.drop_local.ensures.deleted

pub loop-frame-preserved : goal.loop-frame-preserved
loop-frame-preserved g c = frees_one g.met.S.Steps.fits c.loop-frame.invariant c.drop_local.new.frames c.in-Some.handle
    (sym c.in-Some.ensures.oldest) c.in-Some.ensures.rest c.drop_local.ensures.deleted c.drop_local.ensures.same
    c.drop_local.ensures.call

pub returns-clause-call : goal.returns-clause-call
returns-clause-call g c =
    frees_all g.met.S.Steps.fits c.loop-frame.frame c.loop-frame.invariant (let depth = c.depth.ensures in
    let high = c.loop-frame-test.false in omega arith)

pub returns-clause-none : goal.returns-clause-none
returns-clause-none g c =
    frees_none_left g.met.S.Steps.fits c.loop-frame.frame c.loop-frame.invariant (let depth = c.depth.ensures in
    let high = c.loop-frame-test.false in omega arith)

pub returns-clause-given : goal.returns-clause-given
returns-clause-given g c =
    frees_given g.met.S.Steps.fits c.loop-frame.frame c.loop-frame.invariant (let depth = c.depth.ensures in
    let high = c.loop-frame-test.false in omega arith)

pub returns-clause-same : goal.returns-clause-same
returns-clause-same g c = c.loop-frame.invariant.owner
