use Rattle.std.proofs.Common.{refl, sym, ap, ◌+◌, subst, arith}
use Rattle.jr_word.specs.declared.config.Config.{Config}
use Rattle.jr_word.proofs.Limits.{limited}
use Rattle.jr_census.specs.Counts.{AreFew, with_slot}
use Rattle.jr_census.proofs.SlotsCounted.{few_most, few_next, slots_none, slots_next, slots_all}
use Rattle.jr_census.proofs.slots.count_slots.Goals as goal

pub loop-index-init : goal.loop-index-init
loop-index-init g c = (
  slots_none g.met.S.Steps.fits c.args.steps.now _ refl refl refl refl,
  record { globals = omega arith; weaks = omega arith; cleared = omega arith; retired = omega arith },
)

pub with-counted-requires : goal.with-counted-requires
with-counted-requires g c =
    let most =
    (limited (g.S.Steps.facts c.args.steps.now).stands.config (g.met.S.Steps.limits c.args.steps.now)).slots.1 in
    let s = ap (λ (z : Config). z.slots) c.config-slots.ensures in
    let l = c.loop-index-test.true in
    few_most c.loop-index.index c.loop-index.counted (omega arith) c.loop-index.invariant.1

pub loop-index-preserved : goal.loop-index-preserved
loop-index-preserved g c =
    let p = c.loop-index.invariant in (
      slots_next g.met.S.Steps.fits c.loop-index.index c.loop-index.counted c.with-counted.result
          c.scan_slot-slot.result c.requires.role p.0 c.scan_slot-slot.ensures c.with-counted.ensures,
      subst (AreFew (c.loop-index.index + 1)) {x = with_slot c.loop-index.counted c.scan_slot-slot.result}
          (sym c.with-counted.ensures) (few_next c.loop-index.index c.loop-index.counted c.scan_slot-slot.result p.1),
    )

pub returns : goal.returns
returns g c =
    let a = c.loop-index.auto.index-end in
    let b = c.loop-index-test.false in
    let s = ap (λ (z : Config). z.slots) c.config-slots.ensures in
    slots_all g.met.S.Steps.fits c.loop-index.index c.loop-index.counted (omega arith) c.loop-index.invariant.0
