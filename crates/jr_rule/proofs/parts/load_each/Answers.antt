use Rattle.std.proofs.Common.{◌≡◌, ◌+◌, ◌*◌, ◌/◌, length, ℕ, take, subst, refl, ◌∙◌, arith}
use Rattle.jr_steps.specs.Knowing.{SawPart}
use Rattle.jr_steps.proofs.PartFacts.{saw_nothing}
use Rattle.jr_rule.specs.Parts.{facts_within}
use Rattle.jr_rule.proofs.parts.load_each.Goals as goal

pub loop-eight-init : goal.loop-eight-init
loop-eight-init g c = (
  c.requires.there,
  refl,
  refl,
  c.requires.known,
  saw_nothing g.E.Elem.element_of c.args.object c.args.header c.args.start c.args.cells.now,
)

pub loop-eight-preserved : goal.loop-eight-preserved
loop-eight-preserved g c =
    let v = c.loop-eight.invariant in
    let i : ℕ = c.loop-eight.eight * 8 in
    let x0 = c.see_four.ensures in
    let x1 = c.see_four-in-loop-eight.ensures in
    let eight : i + 4 + 4 ≡ (c.loop-eight.eight + 1) * 8 = omega arith in
    let first = c.args.cells.now in
    let s1 = x1.step first (x0.step first v.4) in (
      x1.there,
      x1.config ∙ (x0.config ∙ v.1),
      x1.size ∙ (x0.size ∙ v.2),
      x1.known,
      subst (λ n. SawPart (facts_within g.C.Cells.sight) first c.see_four-in-loop-eight.new.cells c.args.object
          c.args.header c.args.start g.E.Elem.element_of (take n c.see_four-in-loop-eight.new.elements)) eight s1,
    )

pub returns-clause-steps : goal.returns-clause-steps
returns-clause-steps g c =
    let first = c.args.cells.now in
    let v = c.loop-eight.invariant in
    let ends : c.loop-eight.eight * 8 ≡ length c.loop-eight.elements / 8 * 8 = (let same = c.loop-eight.auto.elements in
    let a = c.loop-eight.auto.eight-end in let b = c.loop-eight-test.false in omega arith) in
    c.see_rest.ensures.steps first (subst (λ n. SawPart (facts_within g.C.Cells.sight) first c.loop-eight.cells
    c.args.object c.args.header c.args.start g.E.Elem.element_of (take n c.loop-eight.elements)) ends v.4)
