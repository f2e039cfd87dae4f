use Rattle.std.proofs.Common.{refl, sym, ap, ◌∙◌, arith}
use Rattle.jr_word.specs.declared.config.Config.{Config}
use Rattle.jr_steps.specs.Knowing.{Standing}
use Rattle.jr_weak.specs.Marks.{with_mark}
use Rattle.jr_weak.proofs.Leading.{marked_none}
use Rattle.jr_weak.proofs.RootMarks.{PlacesBelow, places_few, places_next, places_all}
use Rattle.jr_weak.proofs.marker.Marker.mark_locals_of.Goals as goal

pub loop-place-init : goal.loop-place-init
loop-place-init g c = (
  marked_none g.met.S.Steps.fits c.args.self.now.marked.items c.args.steps.now {has = PlacesBelow c.args.thread 0}
      (λ k r o l. absurd (omega arith)),
  refl,
)

pub returns-clause-marks : goal.returns-clause-marks
returns-clause-marks g c =
    let a = c.loop-place.auto.place-end in
    let b = c.loop-place-test.false in
    let s = ap (λ (z : Config). z.locals) c.config-places.ensures in
    places_all g.met.S.Steps.fits c.args.thread c.loop-place.place (omega arith) c.loop-place.invariant.0

pub reach_if-requires : goal.reach_if-requires
reach_if-requires g c =
    let T = g.met.S.Steps in
    let p = c.loop-place.invariant in
    let at = ap (λ (z : Standing). z.config.objects) ((c.scan_local-parts.ensures).stands_is ∙ (p.0).saw.stands_is) in
    let r = c.requires.room in
    let f = p.1 in
    record {
      number = λ o e.
          let few = places_few T.fits c.args.thread c.loop-place.place c.scan_local-parts.result
          (T.some_known c.loop-place.steps) (ap (λ (z : Standing). z.role) (p.0).saw.stands_is ∙ c.requires.role)
          c.scan_local-parts.ensures o (sym c.local_of.ensures ∙ e) in
          let l = few.1 in
          (few.0, omega arith);
    }

pub loop-place-preserved : goal.loop-place-preserved
loop-place-preserved g c =
    let T = g.met.S.Steps in
    let p = c.loop-place.invariant in
    let at = ap (λ (z : Standing). z.config.objects) ((c.scan_local-parts.ensures).stands_is ∙ (p.0).saw.stands_is) in
    let r = c.requires.room in
    let f = p.1 in
    let wide = c.loop-place.self.queue.wide in (
      places_next T.fits c.args.thread c.loop-place.place c.scan_local-parts.result c.requires.role p.0
          c.scan_local-parts.ensures
          (c.reach_if.ensures.marked ∙ ap (λ o. with_mark c.loop-place.self.marked.items o) c.local_of.ensures) (λ o e.
          let few =
          places_few T.fits c.args.thread c.loop-place.place c.scan_local-parts.result (T.some_known c.loop-place.steps)
          (ap (λ (z : Standing). z.role) (p.0).saw.stands_is ∙ c.requires.role) c.scan_local-parts.ensures o e in
          let l = few.1 in omega arith),
      c.reach_if.ensures.room ∙ p.1,
    )
