use mathlib.Core.Logic.{∥∥₁_map}
use Rattle.jr_steps.specs.Knowing.{MayKnow}
use Rattle.jr_heap.specs.Heap.{IsReady}
use Rattle.jr_heap.proofs.Calling.{uncounted}
use Rattle.jr_heap_tests.proofs.Makers.{kind_made}
use Rattle.jr_heap_tests.proofs.heap.made.Goals as goal

pub publish-requires-clause-ready : goal.publish-requires-clause-ready
publish-requires-clause-ready g c =
    c.fill.ensures.ready c.args.kind (∥∥₁_map c.in_ok-range.ensures.own (λ k. (k.0, k.1, (k.2, c.requires.word k.0))))

pub returns-clause-object : goal.returns-clause-object
returns-clause-object g c =
    let ready : MayKnow g.S.Steps.facts c.fill.new.steps
    (IsReady c.args.kind c.in_ok-range.range.place c.in_ok-range.range.length) = c.fill.ensures.ready c.args.kind
    (∥∥₁_map c.in_ok-range.ensures.own (λ k. (k.0, k.1, (k.2, c.requires.word k.0)))) in
    kind_made g.S.Steps.facts c.fill.new.steps c.publish.new.steps c.args.kind c.in_ok-range.range.place
    c.in_ok-range.range.length c.publish.result (uncounted c.publish.ensures.call) ready
