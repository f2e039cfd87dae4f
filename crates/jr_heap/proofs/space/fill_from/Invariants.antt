use Rattle.jr_heap.proofs.Filling.{FilledTo}
use Rattle.jr_heap.proofs.space.fill_from.Given as goal

abbrev pub invariant-loop-index : goal.invariant-loop-index
invariant-loop-index g l =
    FilledTo g.S.Steps.facts l.fn.range.place l.fn.range.length l.units l.fn.steps l.steps l.index
