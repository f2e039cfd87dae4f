use Rattle.std.proofs.Common.{◌+◌, ◌≤◌, ◌∙◌, length, slice_set, refl, sym, ap, subst, arith, length-set}
use Rattle.jr_word.specs.declared.config.Config.{Config}
use Rattle.jr_word.proofs.Limits.{limited}
use Rattle.jr_steps.specs.Knowing.{Standing}
use Rattle.jr_census.specs.Dumps.{noted_length}
use Rattle.jr_census.specs.Telling.{LoadsTell}
use Rattle.jr_census.proofs.Dumped.{EndBefore, ObjectsKept, end_before, objects_all}
use Rattle.jr_census.proofs.Dumped.{objects_next, objects_none, room_next, start_few, words_to}
use Rattle.jr_census.proofs.dump.note_objects.Goals as goal

pub loop-index-init : goal.loop-index-init
loop-index-init g c = (
  objects_none g.met.S.Steps.fits c.args.headers.now c.args.words.now c.args.steps.now,
  refl,
  refl,
  λ j l. absurd (omega arith),
)

pub note_object-header-requires-clause-few : goal.note_object-header-requires-clause-few
note_object-header-requires-clause-few g c =
    let space =
    (limited (g.S.Steps.facts c.args.steps.now).stands.config (g.met.S.Steps.limits c.args.steps.now)).words in
    let room = c.requires.words in
    let long = c.loop-index.invariant.2 in omega arith

pub note_object-header-requires-clause-can : goal.note_object-header-requires-clause-can
note_object-header-requires-clause-can g c =
    let p = c.loop-index.invariant in
    let objects = ap (λ (z : Standing). z.config.objects) p.0.stands_is in
    let words = ap (λ (z : Standing). z.config.words) p.0.stands_is in
    let s = ap (λ (z : Config). z.objects) c.config-objects.ensures in
    let l = c.loop-index-test.true in
    room_next g.met.S.Steps.fits c.loop-index.index c.loop-index.start (length c.loop-index.words) c.loop-index.headers
    c.loop-index.words c.requires.can p.0 (omega arith) (words ∙ (sym c.requires.words ∙ sym p.2))

pub overflow_add-start : goal.overflow_add-start
overflow_add-start g c =
    let p = c.loop-index.invariant in
    let T = g.met.S.Steps in
    let s = ap (λ (z : Config). z.objects) c.config-objects.ensures in
    let l = c.loop-index-test.true in
    let long = p.1 in
    let many = c.requires.headers in
    let is = c.length_in-start.ensures in
    let told = objects_next T.fits c.loop-index.index c.loop-index.start c.loop-index.headers c.loop-index.words
    c.note_object-header.new.words c.note_object-header.result c.requires.role (omega arith) p.3
    c.note_object-header.ensures.before p.0 c.note_object-header.ensures.told in
    let objects = ap (λ (z : Standing). z.config.objects) told.stands_is in
    let words = ap (λ (z : Standing). z.config.words) told.stands_is in
    let few = start_few T.fits (c.loop-index.index + 1) (c.loop-index.start + noted_length c.note_object-header.result)
    _ c.note_object-header.new.words c.requires.can told (omega arith) in
    let space = (limited (g.S.Steps.facts c.args.steps.now).stands.config (T.limits c.args.steps.now)).words in
    omega arith

pub loop-index-preserved : goal.loop-index-preserved
loop-index-preserved g c =
    let p = c.loop-index.invariant in
    let s = ap (λ (z : Config). z.objects) c.config-objects.ensures in
    let l = c.loop-index-test.true in
    let long = p.1 in
    let many = c.requires.headers in
    let wide : c.loop-index.index + 1 ≤ length c.loop-index.headers = omega arith in
    let headers = slice_set c.loop-index.headers c.loop-index.index c.note_object-header.result in
    let is = ap (λ n. c.loop-index.start + n) (sym c.length_in-start.ensures) in (
      subst (λ n. LoadsTell g.S.Steps.facts (λ j. c.loop-index.index + 1 + words_to (c.loop-index.index + 1) j)
          c.args.steps.now c.note_object-header.new.steps
          (ObjectsKept (c.loop-index.index + 1) n headers c.note_object-header.new.words)) is
          (objects_next g.met.S.Steps.fits c.loop-index.index c.loop-index.start c.loop-index.headers c.loop-index.words
          c.note_object-header.new.words c.note_object-header.result c.requires.role (omega arith) p.3
          c.note_object-header.ensures.before p.0 c.note_object-header.ensures.told),
      length-set c.loop-index.headers c.loop-index.index c.note_object-header.result ∙ p.1,
      c.note_object-header.ensures.size ∙ p.2,
      subst (λ n. EndBefore (c.loop-index.index + 1) headers n) is (end_before c.loop-index.index c.loop-index.start
          c.loop-index.headers c.note_object-header.result (omega arith) c.note_object-header.ensures.begins p.3),
    )

pub returns-clause-told : goal.returns-clause-told
returns-clause-told g c =
    let a = c.loop-index.auto.index-end in
    let b = c.loop-index-test.false in
    let s = ap (λ (z : Config). z.objects) c.config-objects.ensures in
    objects_all g.met.S.Steps.fits c.loop-index.index c.loop-index.start c.loop-index.headers c.loop-index.words
    (omega arith) c.loop-index.invariant.0
