use Rattle.jr_frames.proofs.NewLocal.{makes_none, makes_no_local, present_number, makes_local}
use Rattle.jr_frames.proofs.local.new_local.Goals as goal

pub returns-in_default-clause-call : goal.returns-in_default-clause-call
returns-in_default-clause-call g c =
    makes_none g.met.S.Steps.fits c.args.steps.now c.args.frames.now.frames c.args.object c.in_default.is

pub returns-in_default-next-clause-call : goal.returns-in_default-next-clause-call
returns-in_default-next-clause-call g c =
    makes_no_local g.met.S.Steps.fits c.in-Some.is c.requires.ready c.in_default-next.ensures.none

pub put_local-requires-clause-object : goal.put_local-requires-clause-object
put_local-requires-clause-object g c = rw c.in-Some.is at c.requires.object

pub add-requires-clause-object : goal.add-requires-clause-object
add-requires-clause-object g c = present_number g.S.Steps.facts g.met.S.Steps.fits c.args.steps.now c.in-Some.object
    (rw c.in-Some.is at c.requires.object)

pub returns-clause-call : goal.returns-clause-call
returns-clause-call g c = makes_local c.in-Some.is c.requires.ready c.in-Some-next.ensures.some c.put_local.ensures
    c.add.ensures.added c.add.ensures.only
