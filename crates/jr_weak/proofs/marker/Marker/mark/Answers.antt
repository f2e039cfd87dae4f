use Rattle.jr_weak.proofs.Leading.{may_marked}
use Rattle.jr_weak.proofs.AllMarked.{may_begin, roots_marked, all_marked}
use Rattle.jr_weak.proofs.marker.Marker.mark.Goals as goal

pub follow-requires-clause-marking : goal.follow-requires-clause-marking
follow-requires-clause-marking g c = may_marked
    (may_begin g.S.Steps.facts c.args.steps.now c.forget.new.self.marked.items c.forget.ensures.none c.requires.can)
    (roots_marked g.met.S.Steps.fits c.requires.role c.mark_globals.ensures.marks c.mark_locals.ensures.marks)

pub returns-clause-marks : goal.returns-clause-marks
returns-clause-marks g c = all_marked g.met.S.Steps.fits c.requires.role c.mark_globals.ensures.marks
    c.mark_locals.ensures.marks c.forget.ensures.none c.follow.ensures.marks
