use Rattle.std.proofs.Common.{inr}
use Rattle.luthrady.proofs.TakenDumps.{left_whole, noted_as, refused_as}
use Rattle.luthrady.proofs.dumping.notes_of.Goals as goal

-- src/dumping.rt
pub returns-in-Ok-take : goal.returns-in-Ok-take
returns-in-Ok-take g c = noted_as c.args.tries c.args.env.now c.take.new.env
    (left_whole _ _ _ _ c.deref_mut.ensures.len c.take.ensures.slots)
    (left_whole _ _ _ _ c.deref_mut-2.ensures.len c.take.ensures.locals)
    (left_whole _ _ _ _ c.deref_mut-3.ensures.len c.take.ensures.headers)
    (left_whole _ _ _ _ c.deref_mut-4.ensures.len c.take.ensures.words)
    c.in-Ok-take.ensures.call

pub returns-in-Err : goal.returns-in-Err
returns-in-Err g c = inr (refused_as c.args.tries c.args.env.now c.take.new.env _ _ _ _ _ c.in-Err.ensures.call)
