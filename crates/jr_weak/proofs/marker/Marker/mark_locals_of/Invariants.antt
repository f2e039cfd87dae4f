use Rattle.std.specs.Prelude.{◌≡◌, vec_len}
use Rattle.jr_weak.specs.Marking.{MarkedTo}
use Rattle.jr_weak.proofs.RootMarks.{PlacesBelow}
use Rattle.jr_weak.proofs.marker.Marker.mark_locals_of.Given as goal

abbrev pub invariant-loop-place : goal.invariant-loop-place
invariant-loop-place g l = MarkedTo g.S.Steps.facts (λ j. l.place) l.fn.self.marked.items l.self.marked.items l.fn.steps
    l.steps (PlacesBelow l.fn.thread l.place) × (vec_len l.self.found ≡ vec_len l.fn.self.found)
