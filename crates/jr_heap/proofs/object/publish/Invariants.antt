use Rattle.jr_heap.specs.Heap.{header_of}
use Rattle.jr_heap.proofs.Publishing.{Passed}
use Rattle.jr_heap.proofs.object.publish.Given as goal

abbrev pub invariant-loop-turn : goal.invariant-loop-turn
invariant-loop-turn g l = Passed g.S.Steps.facts (header_of l.fn.kind l.fn.range.place l.fn.range.length) l.first
    l.objects l.fn.steps l.steps l.turn
