use Rattle.std.proofs.Common.{sym}
use Rattle.jr_frames.proofs.DroppingFrame.{takes_nothing, takes_one, takes_frame}
use Rattle.jr_frames.proofs.Dropping.{stay_dropped}
use Rattle.jr_frames.proofs.pop.take_newest.Goals as goal

pub loop-handle-init : goal.loop-handle-init
loop-handle-init g c = takes_nothing g.met.S.Steps.fits c.requires.ready

pub drop_local-requires-clause-stay : goal.drop_local-requires-clause-stay
drop_local-requires-clause-stay g c = stay_dropped c.args.inside.now c.requires.stay c.loop-handle.invariant.drops

pub loop-handle-preserved : goal.loop-handle-preserved
loop-handle-preserved g c = takes_one g.met.S.Steps.fits c.loop-handle.invariant c.drop_local.new.frames
    c.in-Some.handle (sym c.in-Some.ensures.oldest) c.in-Some.ensures.rest c.drop_local.ensures.deleted
    c.drop_local.ensures.same c.drop_local.ensures.call

pub returns-clause-call : goal.returns-clause-call
returns-clause-call g c =
    takes_frame g.met.S.Steps.fits c.loop-handle.invariant c.in_default.ensures.empty c.pop_empty.ensures
