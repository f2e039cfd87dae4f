use mathlib.Core.Logic.{∥∥₁_map}
use Rattle.jr_word.specs.declared.kind.Kind.TheVariants.{Plain}
use Rattle.jr_steps.specs.Knowing.{MayKnow}
use Rattle.jr_heap.specs.Heap.{IsReady}
use Rattle.jr_heap.proofs.Calling.{uncounted}
use Rattle.jr_heap_tests.proofs.Makers.{kind_made, plain_ready}
use Rattle.jr_heap_tests.proofs.heap.made_plain.Goals as goal

pub publish-requires-clause-ready : goal.publish-requires-clause-ready
publish-requires-clause-ready g c =
    ∥∥₁_map c.in_ok-empty.ensures.own (λ k.
    (k.0, k.1, plain_ready c.in_ok-empty.empty.place c.in_ok-empty.empty.length k.0 c.in_ok-empty.ensures.ok.0 k.2))

pub returns-clause-object : goal.returns-clause-object
returns-clause-object g c =
    let ready : MayKnow g.S.Steps.facts c.reserve.new.steps
    (IsReady Plain c.in_ok-empty.empty.place c.in_ok-empty.empty.length)
    = ∥∥₁_map c.in_ok-empty.ensures.own (λ k.
    (k.0, k.1, plain_ready c.in_ok-empty.empty.place c.in_ok-empty.empty.length k.0 c.in_ok-empty.ensures.ok.0 k.2)) in
    kind_made g.S.Steps.facts c.reserve.new.steps c.publish.new.steps Plain c.in_ok-empty.empty.place
    c.in_ok-empty.empty.length c.publish.result (uncounted c.publish.ensures.call) ready
