use Rattle.std.specs.Prelude.{◌≡◌, vec_len}
use Rattle.jr_weak.specs.Marking.{MarkedTo}
use Rattle.jr_weak.proofs.RootMarks.{GlobalsBelow}
use Rattle.jr_weak.proofs.marker.Marker.mark_globals.Given as goal

abbrev pub invariant-loop-index : goal.invariant-loop-index
invariant-loop-index g l = MarkedTo g.S.Steps.facts (λ j. l.index) l.fn.self.marked.items l.self.marked.items l.fn.steps
    l.steps (GlobalsBelow l.index) × (vec_len l.self.found ≡ vec_len l.fn.self.found)
