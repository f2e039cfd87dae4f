use Rattle.std.proofs.Common.{sym, subst}
use Rattle.jr_word.specs.declared.header.HeaderParts.{HeaderParts}
use Rattle.jr_heap.specs.Heap.{HoldsHeader}
use Rattle.jr_heap.proofs.Calling.{may_called, uncounted}
use Rattle.jr_heap.proofs.Headers.{learnt}
use Rattle.jr_heap.proofs.HeaderThenElement.{may_present}
use Rattle.jr_heap.proofs.StayFacts.{shown_present}
use Rattle.jr_heap_tests.proofs.heap.read_again.Goals as goal

pub read-requires-clause-object : goal.read-requires-clause-object
read-requires-clause-object g c = may_present g.S.Steps.facts c.header-found.new.steps c.args.object
    c.header-found.result c.header-found.ensures.known

pub read_element-requires-clause-known : goal.read_element-requires-clause-known
read_element-requires-clause-known g c =
    let o = c.args.object in
    let found = c.header-found.result in
    may_called (uncounted c.read.ensures.call) c.header-found.ensures.known (λ k w. shown_present o found k w.shown)
    (λ k j s w acts d l.
    subst (λ (h : HeaderParts). HoldsHeader o h j) (sym (l.0.1.2 found w.known)) (learnt o l.0.0 k j l.0.1))
