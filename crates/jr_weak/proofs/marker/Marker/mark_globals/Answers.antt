use Rattle.std.proofs.Common.{refl, sym, ap, ◌∙◌, arith}
use Rattle.jr_word.specs.declared.config.Config.{Config}
use Rattle.jr_steps.specs.Knowing.{Standing}
use Rattle.jr_weak.specs.Marks.{with_mark}
use Rattle.jr_weak.proofs.Leading.{marked_none}
use Rattle.jr_weak.proofs.RootMarks.{GlobalsBelow, globals_few, globals_next, globals_all}
use Rattle.jr_weak.proofs.marker.Marker.mark_globals.Goals as goal

pub loop-index-init : goal.loop-index-init
loop-index-init g c = (
  marked_none g.met.S.Steps.fits c.args.self.now.marked.items c.args.steps.now {has = GlobalsBelow 0} (λ k h o kind l.
      absurd (omega arith)),
  refl,
)

pub returns-clause-marks : goal.returns-clause-marks
returns-clause-marks g c =
    let a = c.loop-index.auto.index-end in
    let b = c.loop-index-test.false in
    let s = ap (λ (z : Config). z.slots) c.config-slots.ensures in
    globals_all g.met.S.Steps.fits c.loop-index.index (omega arith) c.loop-index.invariant.0

pub reach_if-requires : goal.reach_if-requires
reach_if-requires g c =
    let T = g.met.S.Steps in
    let p = c.loop-index.invariant in
    let at = ap (λ (z : Standing). z.config.objects) ((c.scan_slot-parts.ensures).stands_is ∙ (p.0).saw.stands_is) in
    let r = c.requires.room in
    let f = p.1 in
    record {
      number = λ o e.
          let few = globals_few T.fits c.loop-index.index c.scan_slot-parts.result (T.some_known c.loop-index.steps)
          (ap (λ (z : Standing). z.role) (p.0).saw.stands_is ∙ c.requires.role) c.scan_slot-parts.ensures o
          (sym c.global_of.ensures ∙ e) in
          let l = few.1 in
          (few.0, omega arith);
    }

pub loop-index-preserved : goal.loop-index-preserved
loop-index-preserved g c =
    let T = g.met.S.Steps in
    let p = c.loop-index.invariant in
    let at = ap (λ (z : Standing). z.config.objects) ((c.scan_slot-parts.ensures).stands_is ∙ (p.0).saw.stands_is) in
    let r = c.requires.room in
    let f = p.1 in
    let wide = c.loop-index.self.queue.wide in (
      globals_next T.fits c.loop-index.index c.scan_slot-parts.result c.requires.role p.0 c.scan_slot-parts.ensures
          (c.reach_if.ensures.marked ∙ ap (λ o. with_mark c.loop-index.self.marked.items o) c.global_of.ensures) (λ o e.
          let few = globals_few T.fits c.loop-index.index c.scan_slot-parts.result (T.some_known c.loop-index.steps)
          (ap (λ (z : Standing). z.role) (p.0).saw.stands_is ∙ c.requires.role) c.scan_slot-parts.ensures o e in
          let l = few.1 in omega arith),
      c.reach_if.ensures.room ∙ p.1,
    )
