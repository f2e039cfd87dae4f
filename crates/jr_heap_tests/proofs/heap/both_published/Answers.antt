use Rattle.std.proofs.Common.{sym, arith}
use mathlib.Core.Logic.{∥∥₁_map}
use Rattle.jr_word.specs.declared.kind.Kind.TheVariants.{Int}
use Rattle.jr_heap.proofs.Calling.{uncounted}
use Rattle.jr_heap_tests.proofs.Beside.{apart, both_ready}
use Rattle.jr_heap_tests.proofs.heap.both_published.Goals as goal

pub published_beside-requires-clause-ready : goal.published_beside-requires-clause-ready
published_beside-requires-clause-ready g c =
    let filled = c.fill.ensures.ready Int (∥∥₁_map c.in_ok-first.ensures.own (λ k. (k.0, k.1, (k.2, omega arith)))) in
    ∥∥₁_map (both_ready c.in_ok-first.first.place c.in_ok-second.second.place c.in_ok-first.first.length
    (c.in_ok-first.ensures.ok).0 filled (uncounted (c.in_ok-second.ensures.ok).1) c.in_ok-second.second.length
    (c.in_ok-second.ensures.ok).0 (uncounted c.fill-2.ensures.call))
    (λ k. (k.0, k.1, (k.2.1, k.2.0)))

pub published_beside-requires-clause-apart : goal.published_beside-requires-clause-apart
published_beside-requires-clause-apart g c =
    let filled = c.fill.ensures.ready Int (∥∥₁_map c.in_ok-first.ensures.own (λ k. (k.0, k.1, (k.2, omega arith)))) in
    λ e. apart c.in_ok-first.first.place c.in_ok-second.second.place c.in_ok-first.first.length
    (c.in_ok-first.ensures.ok).0 filled (uncounted (c.in_ok-second.ensures.ok).1) (sym e)

pub published_beside-requires-2-clause-ready : goal.published_beside-requires-2-clause-ready
published_beside-requires-2-clause-ready g c =
    let filled = c.fill.ensures.ready Int (∥∥₁_map c.in_ok-first.ensures.own (λ k. (k.0, k.1, (k.2, omega arith)))) in
    both_ready c.in_ok-first.first.place c.in_ok-second.second.place c.in_ok-first.first.length
    (c.in_ok-first.ensures.ok).0 filled (uncounted (c.in_ok-second.ensures.ok).1) c.in_ok-second.second.length
    (c.in_ok-second.ensures.ok).0 (uncounted c.fill-2.ensures.call)

pub published_beside-requires-2-clause-apart : goal.published_beside-requires-2-clause-apart
published_beside-requires-2-clause-apart g c =
    let filled = c.fill.ensures.ready Int (∥∥₁_map c.in_ok-first.ensures.own (λ k. (k.0, k.1, (k.2, omega arith)))) in
    apart c.in_ok-first.first.place c.in_ok-second.second.place c.in_ok-first.first.length (c.in_ok-first.ensures.ok).0
    filled (uncounted (c.in_ok-second.ensures.ok).1)
