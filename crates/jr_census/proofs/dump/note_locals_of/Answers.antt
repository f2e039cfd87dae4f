use Rattle.std.proofs.Common.{◌+◌, ◌∙◌, refl, ap, arith, length-set}
use Rattle.jr_word.specs.declared.config.Config.{Config}
use Rattle.jr_census.proofs.LocalsDumped.{places_kept_all, places_kept_next, places_kept_none, same_places}
use Rattle.jr_census.proofs.dump.note_locals_of.Goals as goal

pub loop-place-init : goal.loop-place-init
loop-place-init g c = (
  places_kept_none g.met.S.Steps.fits c.args.start c.args.thread c.args.locals.now c.args.steps.now,
  refl,
  λ at l. refl,
)

pub overflow_add-start : goal.overflow_add-start
overflow_add-start g c =
    let s = ap (λ (z : Config). z.locals) c.config-places.ensures in
    let l = c.loop-place-test.true in
    let room = c.requires.room in
    let few = c.requires.few in omega arith

pub bounds-locals-start : goal.bounds-locals-start
bounds-locals-start g c =
    let s = ap (λ (z : Config). z.locals) c.config-places.ensures in
    let l = c.loop-place-test.true in
    let room = c.requires.room in
    let long = c.loop-place.invariant.1 in omega arith

pub loop-place-preserved : goal.loop-place-preserved
loop-place-preserved g c =
    let p = c.loop-place.invariant in
    let s = ap (λ (z : Config). z.locals) c.config-places.ensures in
    let l = c.loop-place-test.true in
    let room = c.requires.room in
    let long = p.1 in (
      places_kept_next g.met.S.Steps.fits c.args.start c.args.thread c.loop-place.place c.loop-place.locals _
          c.scan_local.result c.requires.role (omega arith) p.0 c.scan_local.ensures refl,
      length-set c.loop-place.locals (c.args.start + c.loop-place.place) c.scan_local.result ∙ p.1,
      same_places c.args.start c.loop-place.place c.scan_local.result c.args.locals.now c.loop-place.locals p.2,
    )

pub returns-clause-told : goal.returns-clause-told
returns-clause-told g c =
    let a = c.loop-place.auto.place-end in
    let b = c.loop-place-test.false in
    let s = ap (λ (z : Config). z.locals) c.config-places.ensures in
    places_kept_all g.met.S.Steps.fits c.args.start c.args.thread c.loop-place.place c.loop-place.locals (omega arith)
    c.loop-place.invariant.0
