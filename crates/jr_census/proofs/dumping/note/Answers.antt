use Rattle.jr_census.proofs.Takes.{notes}
use Rattle.jr_census.proofs.Turns.{may_still}
use Rattle.jr_census.proofs.dumping.note.Goals as goal

pub note_objects-requires-clause-can : goal.note_objects-requires-clause-can
note_objects-requires-clause-can g c =
    may_still (may_still c.requires.closed c.note_slots.ensures.told) c.note_locals.ensures.told

pub reopen-requires-clause-closed : goal.reopen-requires-clause-closed
reopen-requires-clause-closed g c =
    may_still (may_still (may_still c.requires.closed c.note_slots.ensures.told) c.note_locals.ensures.told)
    c.note_objects.ensures.told

pub returns-clause-all : goal.returns-clause-all
returns-clause-all g c = notes g.met.S.Steps.fits c.note_slots.new.slots c.note_locals.new.locals
    c.note_objects.new.headers c.note_objects.new.words c.requires.own.1 c.note_slots.ensures.told
    c.note_locals.ensures.told c.note_objects.ensures.told c.reopen.ensures
