use Rattle.std.proofs.Common.{◌+◌, refl, ap}
use Rattle.jr_steps.specs.Knowing.{Standing}
use Rattle.jr_steps.proofs.PartFacts.{saw_more}
use Rattle.jr_rule.proofs.FromMayKnow.{still_known}
use Rattle.jr_rule.proofs.parts.see_into.Goals as goal

pub returns-clause-known : goal.returns-clause-known
returns-clause-known g c = still_known c.see_one-word.ensures.step c.requires.known

pub returns-clause-config : goal.returns-clause-config
returns-clause-config g c = ap (λ (s : Standing). s.config) c.see_one-word.ensures.step.stands_is

pub returns-clause-step : goal.returns-clause-step
returns-clause-step g c = λ p saw.
    saw_more g.E.Elem.element_of c.args.part.object c.args.part.header c.args.part.start c.args.index
    (c.args.part.start + c.args.index) c.args.elements.now c.of_word.result c.see_one-word.result c.requires.index
    refl c.of_word.ensures saw c.see_one-word.ensures.step
