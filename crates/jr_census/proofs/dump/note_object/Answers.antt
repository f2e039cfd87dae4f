use Rattle.std.proofs.Common.{◌+◌, ◌∙◌, length, refl, arith, length-set}
use mathlib.Core.Logic.{∥∥₁_map}
use Rattle.jr_census.proofs.Dumped.{element_there, elements_all, elements_begin}
use Rattle.jr_census.proofs.Dumped.{elements_next, no_object, room_of_elements, same_before}
use Rattle.jr_census.proofs.dump.note_object.Goals as goal

pub returns-in_default-clause-told : goal.returns-in_default-clause-told
returns-in_default-clause-told g c =
    no_object g.met.S.Steps.fits c.args.object c.args.start c.args.words.now c.requires.role c.in_default.ensures

pub loop-index-init : goal.loop-index-init
loop-index-init g c = (
  elements_begin g.met.S.Steps.fits c.args.object c.args.start c.args.words.now c.in-Some.header c.requires.role
      c.in-Some.ensures,
  refl,
  λ at l. refl,
)

pub scan_element-requires-clause-there : goal.scan_element-requires-clause-there
scan_element-requires-clause-there g c =
    element_there g.met.S.Steps.fits c.args.object c.args.start c.loop-index.words c.in-Some.header c.loop-index.index
    c.loop-index-test.true (∥∥₁_map c.requires.can (λ k. (k.0, k.1, k.2.0))) c.loop-index.invariant.0

pub overflow_add-words : goal.overflow_add-words
overflow_add-words g c =
    let room = room_of_elements g.met.S.Steps.fits c.args.object c.args.start (length c.args.words.now) c.in-Some.header
    c.requires.can c.requires.role c.in-Some.ensures in
    let few = c.requires.few in
    let l = c.loop-index-test.true in omega arith

pub bounds-words-start : goal.bounds-words-start
bounds-words-start g c =
    let room = room_of_elements g.met.S.Steps.fits c.args.object c.args.start (length c.args.words.now) c.in-Some.header
    c.requires.can c.requires.role c.in-Some.ensures in
    let long = c.loop-index.invariant.1 in
    let l = c.loop-index-test.true in omega arith

pub loop-index-preserved : goal.loop-index-preserved
loop-index-preserved g c =
    let p = c.loop-index.invariant in
    let room = room_of_elements g.met.S.Steps.fits c.args.object c.args.start (length c.args.words.now) c.in-Some.header
    c.requires.can c.requires.role c.in-Some.ensures in
    let long = p.1 in
    let l = c.loop-index-test.true in (
      elements_next g.met.S.Steps.fits c.args.object c.args.start c.loop-index.words _ c.in-Some.header
          c.loop-index.index c.scan_element.result c.requires.role c.loop-index-test.true (omega arith) p.0
          c.scan_element.ensures refl,
      length-set c.loop-index.words (c.args.start + c.loop-index.index) c.scan_element.result ∙ p.1,
      same_before c.args.start c.loop-index.index c.scan_element.result c.args.words.now c.loop-index.words p.2,
    )

pub returns-clause-told : goal.returns-clause-told
returns-clause-told g c =
    let a = c.loop-index.auto.index-end in
    let b = c.loop-index-test.false in
    elements_all g.met.S.Steps.fits c.args.object c.args.start c.loop-index.words c.in-Some.header c.loop-index.index
    c.requires.role (omega arith) c.loop-index.invariant.0
