use Rattle.std.specs.Prelude.{◌≡◌, ◌≤◌, vec_len}
use Rattle.jr_weak.specs.Marking.{MarkedTo}
use Rattle.jr_weak.proofs.ElementMarks.{Followed, looks_below}
use Rattle.jr_weak.proofs.marker.Marker.follow.Given as goal

abbrev pub invariant-loop-next : goal.invariant-loop-next
invariant-loop-next g l = MarkedTo g.S.Steps.facts (λ j. looks_below j l.self.found.items l.next) l.fn.self.marked.items
    l.self.marked.items l.fn.steps l.steps (Followed l.self.found.items l.next)
    × (vec_len l.self.found ≡ vec_len l.fn.self.found) × (l.next ≤ l.self.count)
