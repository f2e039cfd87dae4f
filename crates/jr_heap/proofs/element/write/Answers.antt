use Rattle.std.proofs.Common.{◌∙◌}
use mathlib.Core.Logic.{∥∥₁_map}
use Rattle.jr_model.specs.Parts.{write_element}
use Rattle.jr_heap.specs.Heap.{element_steps}
use Rattle.jr_heap.proofs.Headers.{learnt}
use Rattle.jr_heap.proofs.HeaderThenElement.{called_at, may_at, may_present, named_at, relearnt, counted_more}
use Rattle.jr_heap.proofs.element.write.Goals as goal

pub header-header-requires-clause-object : goal.header-header-requires-clause-object
header-header-requires-clause-object g c = ∥∥₁_map c.requires.object (λ k. (k.0, k.1, k.2.0))

pub write_element-requires-clause-known : goal.write_element-requires-clause-known
write_element-requires-clause-known g c =
    may_at c.args.object c.header-header.result c.header-header.ensures.call (λ k m. m.0)
    (λ k j s m d l. (
      learnt c.args.object c.header-header.result k j l,
      named_at c.args.object c.header-header.result c.args.word k j
          ((g.met.S.Steps.fits c.args.steps.now k s).role ∙ c.requires.role) m d l,
    )) c.requires.object

pub returns-clause-call : goal.returns-clause-call
returns-clause-call g c =
    called_at c.args.object c.header-header.result c.header-header.ensures.call
    (λ s. write_element s c.args.object c.args.index c.args.word) c.write_element.ensures.call (λ k m. m.0)
    (λ k j s m d l. (
      learnt c.args.object c.header-header.result k j l,
      named_at c.args.object c.header-header.result c.args.word k j
          ((g.met.S.Steps.fits c.args.steps.now k s).role ∙ c.requires.role) m d l,
    ))
    (λ k j q l one s. (
      relearnt c.args.object c.header-header.result k j q l s.0,
      counted_more (element_steps c.write_element.result) k j q one s.1,
    ))

pub returns-clause-object : goal.returns-clause-object
returns-clause-object g c = may_present g.S.Steps.facts c.write_element.new.steps c.args.object c.header-header.result
    c.write_element.ensures.known
