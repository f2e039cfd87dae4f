use Rattle.std.proofs.Common.{◌∙◌, refl, ap, arith, length-set}
use Rattle.jr_word.specs.declared.config.Config.{Config}
use Rattle.jr_census.proofs.Dumped.{kept_none, kept_next, kept_all}
use Rattle.jr_census.proofs.dump.note_slots.Goals as goal

pub loop-index-init : goal.loop-index-init
loop-index-init g c = (kept_none g.met.S.Steps.fits c.args.slots.now c.args.steps.now, refl)

pub loop-index-preserved : goal.loop-index-preserved
loop-index-preserved g c =
    let p = c.loop-index.invariant in
    let s = ap (λ (z : Config). z.slots) c.config-count.ensures in
    let l = c.loop-index-test.true in
    let room = c.requires.room in
    let long = p.1 in (
      kept_next g.met.S.Steps.fits c.loop-index.index c.loop-index.slots _ c.scan_slot.result c.requires.role
          (omega arith) p.0 c.scan_slot.ensures refl,
      length-set c.loop-index.slots c.loop-index.index c.scan_slot.result ∙ p.1,
    )

pub returns-clause-told : goal.returns-clause-told
returns-clause-told g c =
    let a = c.loop-index.auto.index-end in
    let b = c.loop-index-test.false in
    let s = ap (λ (z : Config). z.slots) c.config-count.ensures in
    kept_all g.met.S.Steps.fits c.loop-index.index c.loop-index.slots (omega arith) c.loop-index.invariant.0
