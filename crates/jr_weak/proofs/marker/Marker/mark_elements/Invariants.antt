use Rattle.std.specs.Prelude.{◌≡◌, ◌+◌, vec_len}
use Rattle.jr_weak.specs.Marks.{IsBefore}
use Rattle.jr_weak.specs.Marking.{MarkedTo}
use Rattle.jr_weak.proofs.ElementMarks.{ElementsBelow}
use Rattle.jr_weak.proofs.marker.Marker.mark_elements.Given as goal

abbrev pub invariant-loop-index : goal.invariant-loop-index
invariant-loop-index g l = MarkedTo g.S.Steps.facts (λ j. l.index + 1) l.fn.self.marked.items l.self.marked.items
    l.fn.steps l.steps (ElementsBelow l.object l.header l.index) × (vec_len l.self.found ≡ vec_len l.fn.self.found)
    × IsBefore l.fn.self.count l.fn.self.found.items l.self.count l.self.found.items
