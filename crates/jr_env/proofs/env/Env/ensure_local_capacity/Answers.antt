use Rattle.jr_env.proofs.FrameCalls.{ensures_room, lacks_places}
use Rattle.jr_env.proofs.env.Env.ensure_local_capacity.Goals as goal

pub returns-then-has_room : goal.returns-then-has_room
returns-then-has_room g c =
    ensures_room g.met.S.Steps.fits c.outside.ensures c.args.capacity (c.has_room.ensures.0 (cc))

pub returns-else-has_room : goal.returns-else-has_room
returns-else-has_room g c =
    lacks_places g.met.S.Steps.fits c.outside.ensures c.args.capacity (λ l. let has = c.has_room.ensures.1 l in
    let not = c.if-has_room.false in cc)
