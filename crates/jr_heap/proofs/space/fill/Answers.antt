use Rattle.std.proofs.Common.{arith, replicate}
use Rattle.std.proofs.lemmas.List.{length-replicate}
use mathlib.Core.Logic.{∥∥₁_map}
use Rattle.jr_steps.specs.Knowing.{state_of}
use Rattle.jr_heap.proofs.Filling.{filled_nothing, filled_more, filled_may, filled_call}
use Rattle.jr_heap.proofs.Filling.{filled_own, filled_ready, within_same, all_words}
use Rattle.jr_heap.proofs.space.fill.Goals as goal

pub loop-index-init : goal.loop-index-init
loop-index-init g c = filled_nothing g.met.S.Steps.fits c.args.range.now.place c.args.range.now.length
    (replicate c.args.range.now.length c.args.word) c.args.steps.now

pub put_reserved-requires-clause-own : goal.put_reserved-requires-clause-own
put_reserved-requires-clause-own g c = filled_may g.met.S.Steps.fits c.args.range.now.place c.args.range.now.length
    (replicate c.args.range.now.length c.args.word) c.loop-index.index c.loop-index-test.true c.requires.own
    c.loop-index.invariant

pub loop-index-preserved : goal.loop-index-preserved
loop-index-preserved g c = filled_more g.met.S.Steps.fits c.args.range.now.place c.args.range.now.length (replicate
    c.args.range.now.length c.args.word) c.loop-index.index c.args.word c.loop-index.invariant c.loop-index-test.true
    (within_same c.args.range.now.length c.args.word c.loop-index.index c.loop-index-test.true) c.put_reserved.ensures

pub returns-clause-call : goal.returns-clause-call
returns-clause-call g c = filled_call g.met.S.Steps.fits c.args.range.now.place c.args.range.now.length
    (replicate c.args.range.now.length c.args.word) c.loop-index.index
    (let a = c.loop-index.auto.index-end in let b = c.loop-index-test.false in omega arith)
    (length-replicate c.args.range.now.length c.args.word) c.loop-index.invariant c.requires.role

pub returns-clause-own : goal.returns-clause-own
returns-clause-own g c = filled_own g.met.S.Steps.fits c.args.range.now.place c.args.range.now.length
    (replicate c.args.range.now.length c.args.word) c.loop-index.index
    (let a = c.loop-index.auto.index-end in let b = c.loop-index-test.false in omega arith)
    (length-replicate c.args.range.now.length c.args.word) c.loop-index.invariant c.requires.own

pub returns-clause-ready : goal.returns-clause-ready
returns-clause-ready g c = λ kind may. filled_ready g.met.S.Steps.fits c.args.range.now.place c.args.range.now.length
    (replicate c.args.range.now.length c.args.word) c.loop-index.index
    (let a = c.loop-index.auto.index-end in let b = c.loop-index-test.false in omega arith)
    (length-replicate c.args.range.now.length c.args.word) c.loop-index.invariant c.requires.role kind
    (∥∥₁_map may (λ k. (k.0, k.1, (k.2.0, all_words (state_of k.0) kind c.args.range.now.length c.args.word k.2.1))))
