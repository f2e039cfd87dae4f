use Rattle.std.specs.Prelude.{◌≤◌}
use Rattle.jr_weak.specs.Markers.{marks_of}
use Rattle.jr_weak.proofs.Sweeps.{ClearsTo}
use Rattle.jr_weak.proofs.marker.Marker.clear_weak.Given as goal

abbrev pub invariant-loop-index : goal.invariant-loop-index
invariant-loop-index g l = ClearsTo g.S.Steps.facts (marks_of l.fn.self) l.index l.fn.steps l.steps l.cleared
    l.fn.handles l.handles × (l.cleared ≤ l.index)
