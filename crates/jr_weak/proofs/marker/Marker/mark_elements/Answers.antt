use Rattle.std.proofs.Common.{refl, sym, ap, ◌∙◌, arith}
use Rattle.jr_steps.specs.Knowing.{Standing}
use Rattle.jr_weak.proofs.Queues.{before_self, before_then}
use Rattle.jr_weak.proofs.ElementMarks.{kind_objects, kind_other, elements_none, elements_kind, elements_begin}
use Rattle.jr_weak.proofs.ElementMarks.{elements_may, elements_few, elements_next, elements_all}
use Rattle.jr_weak.proofs.marker.Marker.mark_elements.Goals as goal

pub returns-in_default-clause-marks : goal.returns-in_default-clause-marks
returns-in_default-clause-marks g c =
    elements_none g.met.S.Steps.fits c.args.object c.args.self.now.marked.items c.requires.role c.in_default.ensures

pub returns-then-not-is_objects-clause-marks : goal.returns-then-not-is_objects-clause-marks
returns-then-not-is_objects-clause-marks g c =
    elements_kind g.met.S.Steps.fits c.args.object c.args.self.now.marked.items c.in-Some.header c.requires.role
    c.in-Some.ensures (kind_other c.in-Some.header.kind (sym c.is_objects.ensures ∙ c.if-not-is_objects.true))

pub loop-index-init : goal.loop-index-init
loop-index-init g c = (
  elements_begin g.met.S.Steps.fits c.args.object c.args.self.now.marked.items c.in-Some.header c.requires.role
      c.in-Some.ensures,
  refl,
  before_self c.args.self.now.count c.args.self.now.found.items,
)

pub scan_element-word-requires-clause-there : goal.scan_element-word-requires-clause-there
scan_element-word-requires-clause-there g c = elements_may g.met.S.Steps.fits c.args.object c.loop-index.index
    (kind_objects c.in-Some.header.kind (sym c.is_objects.ensures ∙ c.if-not-is_objects.false)) c.requires.role
    c.requires.marked c.loop-index.invariant.0 c.loop-index-test.true c.requires.marking

pub reach_if-requires : goal.reach_if-requires
reach_if-requires g c =
    let p = c.loop-index.invariant in
    let at = ap (λ (z : Standing). z.config.objects) ((c.scan_element-word.ensures).stands_is ∙ (p.0).saw.stands_is) in
    let r = c.requires.room in
    let f = p.1 in
    record {
      number = λ o e.
          let few = elements_few g.met.S.Steps.fits c.args.object c.loop-index.index
          (kind_objects c.in-Some.header.kind (sym c.is_objects.ensures ∙ c.if-not-is_objects.false)) c.requires.role
          c.requires.marked p.0 c.scan_element-word.result c.loop-index-test.true c.scan_element-word.ensures
          c.object_of.result c.object_of.ensures c.requires.marking o e in
          let l = few.1 in
          (few.0, omega arith);
    }

pub loop-index-preserved : goal.loop-index-preserved
loop-index-preserved g c =
    let p = c.loop-index.invariant in
    let at = ap (λ (z : Standing). z.config.objects) ((c.scan_element-word.ensures).stands_is ∙ (p.0).saw.stands_is) in
    let r = c.requires.room in
    let f = p.1 in
    let most = c.args.self.now.few in
    let wide = c.loop-index.self.queue.wide in (
      elements_next g.met.S.Steps.fits c.args.object c.loop-index.index
          (kind_objects c.in-Some.header.kind (sym c.is_objects.ensures ∙ c.if-not-is_objects.false)) c.requires.role
          c.requires.marked p.0 c.scan_element-word.result c.loop-index-test.true c.scan_element-word.ensures
          c.object_of.result c.object_of.ensures
          (omega arith) c.reach_if.ensures.marked (λ o e.
          let few = elements_few g.met.S.Steps.fits c.args.object c.loop-index.index
          (kind_objects c.in-Some.header.kind (sym c.is_objects.ensures ∙ c.if-not-is_objects.false)) c.requires.role
          c.requires.marked p.0 c.scan_element-word.result c.loop-index-test.true c.scan_element-word.ensures
          c.object_of.result c.object_of.ensures c.requires.marking o e in
          let l = few.1 in omega arith),
      c.reach_if.ensures.room ∙ p.1,
      before_then p.2 c.reach_if.ensures.before,
    )

pub returns-clause-marks : goal.returns-clause-marks
returns-clause-marks g c =
    let a = c.loop-index.auto.index-end in
    let b = c.loop-index-test.false in
    elements_all g.met.S.Steps.fits c.args.object c.loop-index.index
    (kind_objects c.in-Some.header.kind (sym c.is_objects.ensures ∙ c.if-not-is_objects.false)) c.requires.role
    c.requires.marked c.loop-index.invariant.0 (omega arith)
