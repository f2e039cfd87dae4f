use Rattle.std.proofs.Common.{◌+◌, false, refl, sym, ap, ◌∙◌, subst, slice_index_or, arith}
use Rattle.jr_word.specs.declared.config.Config.{Config}
use Rattle.jr_word.proofs.Limits.{limited}
use Rattle.jr_steps.specs.Knowing.{Standing}
use Rattle.jr_weak.specs.Markers.{marks_of}
use Rattle.jr_census.specs.declared.objects.Objects.{Objects}
use Rattle.jr_census.specs.Counts.{IsRoomFor, unless, with_object}
use Rattle.jr_census.proofs.HeadersCounted.{FewHeaders, FewObjects, no_counts, headers_few, headers_none}
use Rattle.jr_census.proofs.HeadersCounted.{headers_next, headers_all, no_kinds, room_for, words_few, words_unless}
use Rattle.jr_census.proofs.objects.count_objects.Goals as goal

pub loop-index-init : goal.loop-index-init
loop-index-init g c =
    let few : FewObjects 0 (record { kinds = no_counts; live = 0; words = 0 }) =
    record { kinds = λ kind. let z = no_kinds kind in omega arith; live = omega arith } in (
      headers_none g.met.S.Steps.fits (marks_of c.args.marker.now) c.args.steps.now _ no_kinds refl refl,
      record { present = few; unreached = few; words = omega arith },
    )

pub with-present-requires : goal.with-present-requires
with-present-requires g c =
    let T = g.met.S.Steps in
    let marks = marks_of c.args.marker.now in
    let p = c.loop-index.invariant in
    let h = c.scan_header-header.result in
    let x = with_object c.loop-index.present h in
    let y = with_object c.loop-index.unreached (unless (slice_index_or marks (c.loop-index.index + 1) false) h) in
    let limits = limited (g.S.Steps.facts c.args.steps.now).stands.config (T.limits c.args.steps.now) in
    let few = limits.objects.1 in
    let space = limits.words in
    let told = headers_next T.fits marks c.loop-index.index c.loop-index.present x c.loop-index.unreached y h
    c.requires.role p.0 c.scan_header-header.ensures refl refl in
    let objects = ap (λ (z : Standing). z.config.objects) told.stands_is in
    let words = ap (λ (z : Standing). z.config.words) told.stands_is in
    let s = ap (λ (z : Config). z.objects) c.config-objects.ensures in
    let l = c.loop-index-test.true in
    room_for c.loop-index.index (g.S.Steps.facts c.scan_header-header.new.self).stands.config.words c.loop-index.present
    h (omega arith) (omega arith) (p.1).present
    (words_few T.fits marks (c.loop-index.index + 1) x y c.requires.can told (omega arith))

pub with-unreached-requires : goal.with-unreached-requires
with-unreached-requires g c =
    let T = g.met.S.Steps in
    let marks = marks_of c.args.marker.now in
    let marked = slice_index_or marks (c.loop-index.index + 1) false in
    let p = c.loop-index.invariant in
    let h = c.scan_header-header.result in
    let x = with_object c.loop-index.present h in
    let y = with_object c.loop-index.unreached (unless marked h) in
    let limits = limited (g.S.Steps.facts c.args.steps.now).stands.config (T.limits c.args.steps.now) in
    let few = limits.objects.1 in
    let space = limits.words in
    let told = headers_next T.fits marks c.loop-index.index c.loop-index.present x c.loop-index.unreached y h
    c.requires.role p.0 c.scan_header-header.ensures refl refl in
    let objects = ap (λ (z : Standing). z.config.objects) told.stands_is in
    let words = ap (λ (z : Standing). z.config.words) told.stands_is in
    let s = ap (λ (z : Config). z.objects) c.config-objects.ensures in
    let l = c.loop-index-test.true in
    let fit = words_few T.fits marks (c.loop-index.index + 1) x y c.requires.can told (omega arith) in
    let less = words_unless marked h c.loop-index.unreached c.loop-index.present (p.1).words in
    subst (λ z. IsRoomFor z c.loop-index.unreached) {x = unless marked h}
    (sym {b = unless marked h} c.unless_marked.ensures)
    (room_for c.loop-index.index (g.S.Steps.facts c.scan_header-header.new.self).stands.config.words
    c.loop-index.unreached (unless marked h) (omega (arith, few, s, l)) (omega (arith, space, words)) (p.1).unreached
    (omega (arith, fit, less)))

pub loop-index-preserved : goal.loop-index-preserved
loop-index-preserved g c =
    let p = c.loop-index.invariant in
    let marks = marks_of c.args.marker.now in
    let marked = slice_index_or marks (c.loop-index.index + 1) false in
    let h = c.scan_header-header.result in
    let is = c.with-unreached.ensures ∙ ap (λ h. with_object c.loop-index.unreached h) c.unless_marked.ensures in (
      headers_next g.met.S.Steps.fits marks c.loop-index.index c.loop-index.present c.with-present.result
          c.loop-index.unreached c.with-unreached.result h c.requires.role p.0 c.scan_header-header.ensures
          c.with-present.ensures is,
      subst (λ (z : Objects × Objects). FewHeaders (c.loop-index.index + 1) z.0 z.1)
          {x = (with_object c.loop-index.present h, with_object c.loop-index.unreached (unless marked h))}
          (λ j. (sym c.with-present.ensures j, sym is j))
          (headers_few c.loop-index.index marked h c.loop-index.present c.loop-index.unreached p.1),
    )

pub returns : goal.returns
returns g c =
    let a = c.loop-index.auto.index-end in
    let b = c.loop-index-test.false in
    let s = ap (λ (z : Config). z.objects) c.config-objects.ensures in
    headers_all g.met.S.Steps.fits (marks_of c.args.marker.now) c.loop-index.index c.loop-index.present
    c.loop-index.unreached (omega arith) c.loop-index.invariant.0
