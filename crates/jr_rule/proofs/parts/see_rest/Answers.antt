use Rattle.std.proofs.Common.{length, refl, ◌∙◌, arith}
use Rattle.jr_steps.proofs.PartFacts.{saw_all}
use Rattle.jr_rule.proofs.parts.see_rest.Goals as goal

pub loop-index-init : goal.loop-index-init
loop-index-init g c = (c.requires.there, refl, refl, c.requires.known, λ p s. s)

pub loop-index-preserved : goal.loop-index-preserved
loop-index-preserved g c = let v = c.loop-index.invariant in let x = c.see_into.ensures in
    (x.there, x.config ∙ v.1, x.size ∙ v.2, x.known, λ p s. x.step p (v.4 p s))

pub returns-clause-steps : goal.returns-clause-steps
returns-clause-steps g c = λ p s.
    saw_all g.E.Elem.element_of c.args.part.object c.args.part.header c.args.part.start c.loop-index.index
    (length c.args.elements.now)
    c.loop-index.elements (let a = c.loop-index.auto.index-end in let b = c.loop-index-test.false in
    let d = c.requires.done in omega arith) c.loop-index.invariant.2 (c.loop-index.invariant.4 p s)
