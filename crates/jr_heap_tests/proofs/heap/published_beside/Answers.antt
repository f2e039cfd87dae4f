use Rattle.std.proofs.Common.{Ok, sym, ap, subst}
use mathlib.Core.Logic.{∥∥₁_map}
use Rattle.jr_word.specs.declared.header.HeaderParts.{HeaderParts}
use Rattle.jr_word.specs.declared.kind.Kind.TheVariants.{Int}
use Rattle.jr_steps.specs.declared.known.Holdings.{Holdings}
use Rattle.jr_steps.specs.Holdings.{words_at}
use Rattle.jr_steps.specs.Knowing.{MayKnow}
use Rattle.jr_heap.specs.Heap.{IsReady, HoldsHeader}
use Rattle.jr_heap.proofs.Calling.{may_called, uncounted}
use Rattle.jr_heap_tests.proofs.Beside.{ready_same, ready_published, published_holds}
use Rattle.jr_heap_tests.proofs.heap.published_beside.Goals as goal

pub publish-requires-clause-ready : goal.publish-requires-clause-ready
publish-requires-clause-ready g c = ∥∥₁_map c.requires.ready (λ k. (k.0, k.1, k.2.0))

pub returns-in_err-object-clause-other : goal.returns-in_err-object-clause-other
returns-in_err-object-clause-other g c =
    may_called (uncounted c.publish.ensures.call) c.requires.ready (λ k w. w.0)
    (λ k j s w acts d l. ready_published c.args._other.now.place c.args._other.now.length c.args.range.place
    c.args.range.length c.publish.result k j (λ e. c.requires.apart (sym e)) l w.1)

pub read_element-requires-clause-known : goal.read_element-requires-clause-known
read_element-requires-clause-known g c =
    subst (λ (h : HeaderParts). MayKnow g.S.Steps.facts c.publish.new.steps (HoldsHeader c.in_ok-object.object h))
    (sym c.header-header.ensures) c.in_ok-object.ensures.known

pub returns-clause-other : goal.returns-clause-other
returns-clause-other g c =
    let both : MayKnow g.S.Steps.facts c.publish.new.steps (λ k. HoldsHeader c.in_ok-object.object
    c.header-header.result k × IsReady Int c.args._other.now.place c.args._other.now.length k)
    = may_called (uncounted c.in_ok-object.ensures.call) c.requires.ready (λ k w. w.0) (λ k j s w acts d l. (
      subst (λ (h : HeaderParts). HoldsHeader c.in_ok-object.object h j) (sym c.header-header.ensures)
          (published_holds c.args.range.place c.args.range.length c.in_ok-object.object k j l w.0),
      ready_published c.args._other.now.place c.args._other.now.length c.args.range.place c.args.range.length
          (Ok c.in_ok-object.object) k j (λ e. c.requires.apart (sym e)) l w.1,
    )) in
    may_called (uncounted c.read_element.ensures.call) both (λ k w. w.0)
    (λ k j s w acts d l. ready_same c.args._other.now.place c.args._other.now.length k j
    (ap (λ (h : Holdings). words_at c.args._other.now.place h.ranges) l.0.1) w.1)
