use Rattle.std.proofs.Common.{rules, sym, ◌∙◌, ◌+◌, ◌<◌, ◌^◌, arith}
use Rattle.jr_frames.specs.Places.{gave_any, is_taken}
use Rattle.jr_frames.proofs.PlacesCounted.{count_nothing, one_more_given, one_more_taken, fits_few, is_some}
use Rattle.jr_frames.proofs.counting.count_places.Goals as goal

pub loop-index-init : goal.loop-index-init
loop-index-init c =
    (sym (count_nothing (is_taken c.args.places.now.items)), sym (count_nothing (gave_any c.args.places.now.items)))

pub overflow_add-standing : goal.overflow_add-standing
overflow_add-standing c =
    let small : c.loop-index.standing + c.from-standing.result < 2 ^ 16 =
    fits_few c.loop-index.standing c.from-standing.result c.loop-index.index (is_taken c.args.places.now.items)
    (is_taken c.deref.result.now c.loop-index.index) c.loop-index.invariant.0 c.from-standing.ensures
    (let l = c.loop-index-test.true in
    let n = c.len-index-end.ensures.fits in
    let m = c.len-index-end.ensures.value in
    omega arith) in
    search rules

pub overflow_add-given : goal.overflow_add-given
overflow_add-given c =
    let small : c.loop-index.given + c.from-given.result < 2 ^ 16 =
    fits_few c.loop-index.given c.from-given.result c.loop-index.index (gave_any c.args.places.now.items)
    (gave_any c.deref.result.now c.loop-index.index) c.loop-index.invariant.1
    (c.from-given.ensures ∙ is_some _ _ c.given.ensures)
    (let l = c.loop-index-test.true in
    let n = c.len-index-end.ensures.fits in
    let m = c.len-index-end.ensures.value in
    omega arith) in
    search rules

pub loop-index-preserved : goal.loop-index-preserved
loop-index-preserved c = (
  one_more_taken c.deref.result.now c.args.places.now.items c.deref.ensures.0 c.loop-index.index
      c.loop-index.standing c.from-standing.result c.loop-index.invariant.0 c.from-standing.ensures,
  one_more_given c.deref.result.now c.args.places.now.items c.deref.ensures.0 c.loop-index.index
      c.loop-index.given c.from-given.result c.loop-index.invariant.1
      (c.from-given.ensures ∙ is_some _ _ c.given.ensures),
)
