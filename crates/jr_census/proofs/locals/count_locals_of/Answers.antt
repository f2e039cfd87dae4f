use Rattle.std.proofs.Common.{◌+◌, ap, arith}
use Rattle.jr_word.specs.declared.config.Config.{Config}
use Rattle.jr_census.proofs.LocalsCounted.{local_few, places_none, places_next, places_all}
use Rattle.jr_census.proofs.locals.count_locals_of.Goals as goal

pub loop-place-init : goal.loop-place-init
loop-place-init g c = (places_none g.met.S.Steps.fits c.args.thread c.args.steps.now, omega arith)

pub loop-place-preserved : goal.loop-place-preserved
loop-place-preserved g c =
    let p = c.loop-place.invariant in
    let few = local_few c.scan_local.result in
    let is = c.at_place-count.ensures in
    let l = p.1 in (
      places_next g.met.S.Steps.fits c.args.thread c.loop-place.place c.loop-place.count
          (c.loop-place.count + c.at_place-count.result) c.scan_local.result c.requires.role p.0 c.scan_local.ensures
          (ap (λ n. c.loop-place.count + n) is),
      omega arith,
    )

pub returns : goal.returns
returns g c =
    let a = c.loop-place.auto.place-end in
    let b = c.loop-place-test.false in
    let s = ap (λ (z : Config). z.locals) c.config-places.ensures in
    places_all g.met.S.Steps.fits c.args.thread c.loop-place.place c.loop-place.count (omega arith)
    c.loop-place.invariant.0
