use Rattle.std.proofs.Common.{sym, subst}
use Rattle.jr_word.specs.declared.header.HeaderParts.{HeaderParts}
use Rattle.jr_steps.specs.Knowing.{MayKnow}
use Rattle.jr_heap.specs.Heap.{HoldsHeader}
use Rattle.jr_heap_tests.proofs.heap.published.Goals as goal

pub read_element-requires-clause-known : goal.read_element-requires-clause-known
read_element-requires-clause-known g c =
    subst (λ (h : HeaderParts). MayKnow g.S.Steps.facts c.publish.new.steps (HoldsHeader c.in_ok-object.object h))
    (sym c.header-header.ensures) c.in_ok-object.ensures.known
