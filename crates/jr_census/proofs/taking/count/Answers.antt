use Rattle.jr_weak.specs.Markers.{marks_of}
use Rattle.jr_census.proofs.Takes.{counts, marks_told, with_locals}
use Rattle.jr_census.proofs.Turns.{may_still}
use Rattle.jr_census.proofs.WordsCounted.{has_used}
use Rattle.jr_census.proofs.taking.count.Goals as goal

pub count_objects-requires-clause-can : goal.count_objects-requires-clause-can
count_objects-requires-clause-can g c =
    may_still (may_still c.requires.closed (marks_told (marks_of c.mark.new.self) c.mark.ensures.marks))
    c.count_slots-slots.ensures

pub count_words-words-requires-clause-few : goal.count_words-words-requires-clause-few
count_words-words-requires-clause-few g c =
    let T = g.met.S.Steps in
    let marks = marks_of c.mark.new.self in
    let locals = with_locals T.fits marks c.count_slots-slots.result c.count_objects.result.0 c.count_objects.result.1
    c.count_locals-locals.result c.requires.own.1 c.mark.ensures.marks c.count_slots-slots.ensures
    c.count_objects.ensures c.count_locals-locals.ensures in
    has_used T.fits marks c.count_objects.result.0 c.count_objects.result.1 c.requires.closed locals (λ k was.
    (was.0.1, was.0.2))

pub reopen-requires-clause-closed : goal.reopen-requires-clause-closed
reopen-requires-clause-closed g c = may_still (may_still
    (may_still (may_still (may_still c.requires.closed (marks_told (marks_of c.mark.new.self) c.mark.ensures.marks))
    c.count_slots-slots.ensures) c.count_objects.ensures) c.count_locals-locals.ensures) c.count_words-words.ensures

pub returns-clause-all : goal.returns-clause-all
returns-clause-all g c = counts g.met.S.Steps.fits (marks_of c.mark.new.self) c.count_slots-slots.result
    c.count_objects.result.0 c.count_objects.result.1 c.count_locals-locals.result c.requires.own.1 c.mark.ensures.marks
    c.count_slots-slots.ensures c.count_objects.ensures c.count_locals-locals.ensures c.count_words-words.result
    c.count_words-words.ensures c.reopen.ensures
