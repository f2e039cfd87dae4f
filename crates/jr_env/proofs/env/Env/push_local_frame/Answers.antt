use Rattle.std.proofs.Common.{arith}
use Rattle.jr_env.proofs.FrameCalls.{pushes, pushes_no_frame, pushes_no_places, ready_pushed}
use Rattle.jr_env.proofs.EndedStays.{can_call}
use Rattle.jr_env.proofs.env.Env.push_local_frame.Goals as goal

pub returns-then-depth-ge-FRAMES : goal.returns-then-depth-ge-FRAMES
returns-then-depth-ge-FRAMES g c = pushes_no_frame g.met.S.Steps.fits c.outside.ensures c.args.capacity
    (let n = c.depth.ensures in let many = c.if-depth-ge-FRAMES.true in omega arith)

pub returns-then-not-has_room : goal.returns-then-not-has_room
returns-then-not-has_room g c = pushes_no_places g.met.S.Steps.fits c.outside.ensures c.args.capacity
    (let n = c.depth.ensures in let few = c.if-depth-ge-FRAMES.false in omega arith) (λ l.
    let has = c.has_room.ensures.1 l in let not = c.if-not-has_room.true in cc)

pub returns : goal.returns
returns g c = pushes g.met.S.Steps.fits c.outside.ensures c.args.capacity
    (let n = c.depth.ensures in let few = c.if-depth-ge-FRAMES.false in omega arith) (c.has_room.ensures.0 (cc))
    c.push.ensures

pub invariant_of-self-3 : goal.invariant_of-self-3
invariant_of-self-3 g c = let ready = ready_pushed c.outside.ensures.ready c.push.ensures in
    ((ready.own, tt), (can_call ready, tt))
