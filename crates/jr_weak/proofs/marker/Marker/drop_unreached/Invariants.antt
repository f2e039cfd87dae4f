use Rattle.std.specs.Prelude.{◌≤◌}
use Rattle.jr_weak.specs.Markers.{marks_of}
use Rattle.jr_weak.proofs.Drops.{DropsTo}
use Rattle.jr_weak.proofs.marker.Marker.drop_unreached.Given as goal

abbrev pub invariant-loop-index : goal.invariant-loop-index
invariant-loop-index g l = DropsTo g.S.Steps.facts (marks_of l.fn.self) l.index l.fn.steps l.steps l.dropped
    l.fn.numbers l.numbers × (l.dropped ≤ l.index)
