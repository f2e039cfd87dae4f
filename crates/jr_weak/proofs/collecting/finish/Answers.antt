use Rattle.std.proofs.Common.{◌∙◌, ℕ, Bool, List, sym, subst}
use Rattle.jr_model.specs.State.{Handle}
use Rattle.jr_weak.specs.Collecting.{Finishes}
use Rattle.jr_weak.specs.Listing.{ListsTell}
use Rattle.jr_weak.specs.Markers.{marks_of}
use Rattle.jr_weak.proofs.Collects.{finishes, may_clear, may_drop, may_move, may_reopen}
use Rattle.jr_weak.proofs.collecting.finish.Goals as goal

pub clear_weak-cleared-requires-clause-marked : goal.clear_weak-cleared-requires-clause-marked
clear_weak-cleared-requires-clause-marked g c = may_clear g.S.Steps.facts c.args.steps.now c.mark.new.steps
    (marks_of c.mark.new.self) c.requires.closed c.mark.ensures.marks

pub drop_unreached-dropped-requires-clause-cleared : goal.drop_unreached-dropped-requires-clause-cleared
drop_unreached-dropped-requires-clause-cleared g c = may_drop g.S.Steps.facts c.mark.new.steps
    c.clear_weak-cleared.new.steps (marks_of c.mark.new.self) (may_clear g.S.Steps.facts c.args.steps.now
    c.mark.new.steps (marks_of c.mark.new.self) c.requires.closed c.mark.ensures.marks) c.clear_weak-cleared.ensures.0

pub compact-used-requires-clause-dropped : goal.compact-used-requires-clause-dropped
compact-used-requires-clause-dropped g c = may_move g.S.Steps.facts c.clear_weak-cleared.new.steps
    c.drop_unreached-dropped.new.steps (marks_of c.mark.new.self)
    (may_drop g.S.Steps.facts c.mark.new.steps c.clear_weak-cleared.new.steps (marks_of c.mark.new.self) (may_clear
    g.S.Steps.facts c.args.steps.now c.mark.new.steps (marks_of c.mark.new.self) c.requires.closed c.mark.ensures.marks)
    c.clear_weak-cleared.ensures.0) c.drop_unreached-dropped.ensures.0

pub reopen-requires-clause-closed : goal.reopen-requires-clause-closed
reopen-requires-clause-closed g c =
    may_reopen g.S.Steps.facts c.drop_unreached-dropped.new.steps c.compact-used.new.steps (marks_of c.mark.new.self) _
    (may_move g.S.Steps.facts c.clear_weak-cleared.new.steps c.drop_unreached-dropped.new.steps
    (marks_of c.mark.new.self)
    (may_drop g.S.Steps.facts c.mark.new.steps c.clear_weak-cleared.new.steps (marks_of c.mark.new.self) (may_clear
    g.S.Steps.facts c.args.steps.now c.mark.new.steps (marks_of c.mark.new.self) c.requires.closed c.mark.ensures.marks)
    c.clear_weak-cleared.ensures.0) c.drop_unreached-dropped.ensures.0) c.compact-used.ensures.acts

pub returns-clause-all : goal.returns-clause-all
returns-clause-all g c =
    let handles = c.args.handles.now in
    let numbers = c.args.numbers.now in
    let tells : List Handle → List ℕ → Type 0 = ListsTell handles numbers c.clear_weak-cleared.new.handles
    c.drop_unreached-dropped.new.numbers in
    subst (λ (marks : List Bool). Finishes g.S.Steps.facts c.args.steps.now c.reopen.new.steps marks tells
    c.clear_weak-cleared.result c.drop_unreached-dropped.result c.compact-used.result)
    (sym c.compact-used.ensures.marks)
    (finishes g.S.Steps.facts g.met.S.Steps.fits (marks_of c.mark.new.self) c.requires.own.1
    (c.mark.ensures.room ∙ c.requires.room) c.mark.ensures.marks c.clear_weak-cleared.ensures.0
    c.drop_unreached-dropped.ensures.0
    (record { handles_are = c.clear_weak-cleared.ensures.1; numbers_are = c.drop_unreached-dropped.ensures.1 })
    c.compact-used.ensures.acts c.reopen.ensures)
