use Rattle.jr_model.specs.Parts.{read_element}
use Rattle.jr_heap.specs.Heap.{element_steps}
use Rattle.jr_heap.proofs.Headers.{learnt}
use Rattle.jr_heap.proofs.HeaderThenElement.{called_at, may_present, reread, counted_more}
use Rattle.jr_heap.proofs.element.read.Goals as goal

pub returns-clause-call : goal.returns-clause-call
returns-clause-call g c =
    called_at c.args.object c.header-header.result c.header-header.ensures.call
    (λ s. read_element s c.args.object c.args.index) c.read_element.ensures.call (λ k m. m) (λ k j s m d l.
    learnt c.args.object c.header-header.result k j l)
    (λ k j q l one s. (
      reread c.args.object c.header-header.result c.read_element.result k j q l s.0,
      counted_more (element_steps c.read_element.result) k j q one s.1,
    ))

pub returns-clause-object : goal.returns-clause-object
returns-clause-object g c = may_present g.S.Steps.facts c.read_element.new.steps c.args.object c.header-header.result
    c.read_element.ensures.known
