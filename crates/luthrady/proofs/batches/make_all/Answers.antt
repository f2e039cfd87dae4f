use Rattle.std.proofs.Common.{◌∙◌, arith, refl}
use Rattle.luthrady.proofs.Batching.{all_made, none_made, one_made}
use Rattle.luthrady.proofs.batches.make_all.Goals as goal

pub loop-index-init : goal.loop-index-init
loop-index-init g c = (none_made _ _, refl)

pub loop-index-preserved : goal.loop-index-preserved
loop-index-preserved g c =
    let p = c.loop-index.invariant in
    let size = p.0.size in
    let l = c.loop-index-test.true in (
      one_made _ _ _ _ _ _ _ _ (omega arith) p.0 c.make_one.ensures.made,
      c.make_one.ensures.same_reference ∙ p.1,
    )

pub returns-clause-made : goal.returns-clause-made
returns-clause-made g c =
    let a = c.loop-index.auto.index-end in
    let b = c.loop-index-test.false in
    all_made _ _ _ _ _ (omega arith) c.loop-index.invariant.0
