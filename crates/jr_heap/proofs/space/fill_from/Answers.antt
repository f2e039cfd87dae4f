use Rattle.std.proofs.Common.{◌≡◌, Some, slice_get, arith, sym, subst}
use Rattle.std.proofs.lemmas.Option.{slice_get-get_or}
use mathlib.Core.Logic.{∥∥₁_map}
use Rattle.jr_word.specs.declared.kind.Kind.TheVariants.{Text}
use Rattle.jr_steps.specs.Knowing.{state_of}
use Rattle.jr_heap.proofs.Filling.{filled_nothing, filled_more, filled_may, filled_call}
use Rattle.jr_heap.proofs.Filling.{filled_own, filled_ready, units_are_words}
use Rattle.jr_heap.proofs.space.fill_from.Goals as goal

pub loop-index-init : goal.loop-index-init
loop-index-init g c =
    filled_nothing g.met.S.Steps.fits c.args.range.now.place c.args.range.now.length c.args.units.now c.args.steps.now

pub put_reserved-requires-clause-own : goal.put_reserved-requires-clause-own
put_reserved-requires-clause-own g c = filled_may g.met.S.Steps.fits c.args.range.now.place c.args.range.now.length
    c.args.units.now c.loop-index.index c.loop-index-test.true c.requires.own c.loop-index.invariant

pub loop-index-preserved : goal.loop-index-preserved
loop-index-preserved g c = filled_more g.met.S.Steps.fits c.args.range.now.place c.args.range.now.length
    c.args.units.now c.loop-index.index c.from.result c.loop-index.invariant c.loop-index-test.true
    (subst (λ v. slice_get c.args.units.now c.loop-index.index ≡ Some v) (sym c.from.ensures)
    (slice_get-get_or c.args.units.now c.loop-index.index 0
    (let l = c.loop-index-test.true in let long = c.requires.long in omega arith))) c.put_reserved.ensures

pub returns-clause-call : goal.returns-clause-call
returns-clause-call g c = filled_call g.met.S.Steps.fits c.args.range.now.place c.args.range.now.length c.args.units.now
    c.loop-index.index (let a = c.loop-index.auto.index-end in let b = c.loop-index-test.false in omega arith)
    c.requires.long c.loop-index.invariant c.requires.role

pub returns-clause-own : goal.returns-clause-own
returns-clause-own g c = filled_own g.met.S.Steps.fits c.args.range.now.place c.args.range.now.length c.args.units.now
    c.loop-index.index (let a = c.loop-index.auto.index-end in let b = c.loop-index-test.false in omega arith)
    c.requires.long c.loop-index.invariant c.requires.own

pub returns-clause-ready : goal.returns-clause-ready
returns-clause-ready g c =
    filled_ready g.met.S.Steps.fits c.args.range.now.place c.args.range.now.length c.args.units.now c.loop-index.index
    (let a = c.loop-index.auto.index-end in let b = c.loop-index-test.false in omega arith) c.requires.long
    c.loop-index.invariant c.requires.role Text
    (∥∥₁_map c.requires.own (λ k. (k.0, k.1, (k.2, units_are_words (state_of k.0) c.args.units.now c.type_inv.units))))
