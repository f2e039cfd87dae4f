use Rattle.std.proofs.Common.{arith, length, refl}
use mathlib.Core.Logic.{∥∥₁_map}
use Rattle.jr_heap.proofs.Parts.{part_may, same_no_text, stored_word, part_write_more, part_written}
use Rattle.jr_heap.proofs.part.write_part.Goals as goal

pub put_element-requires-clause-kind : goal.put_element-requires-clause-kind
put_element-requires-clause-kind g c = same_no_text g.E.Elem.KIND c.args.header.kind c.requires.kind

pub put_element-requires-clause-known : goal.put_element-requires-clause-known
put_element-requires-clause-known g c =
    ∥∥₁_map (part_may g.met.S.Steps.fits c.args.object c.args.header c.requires.known c.loop-element.invariant.1)
    (λ k. (
      k.0,
      k.1,
      (
        k.2.known,
        stored_word g.E.Elem.KIND c.args.header.kind c.to_word.result (g.E.Elem.word_of c.element-item.result)
            c.requires.kind c.to_word.ensures.word
            (g.met.E.Elem.laws.writes_below c.element-item.result c.to_word.ensures.fits) k.0,
      ),
    ))

pub loop-element-preserved : goal.loop-element-preserved
loop-element-preserved g c =
    let place = c.loop-element.invariant.0 in (
      omega arith,
      part_write_more g.met.S.Steps.fits c.args.object c.args.header g.E.Elem.word_of c.args.start
          c.loop-element.element-index c.loop-element.index c.args.elements.now c.element-item.result c.to_word.result
          c.loop-element-test.true place c.requires.role c.element-item.is c.to_word.ensures.word
          (stored_word g.E.Elem.KIND c.args.header.kind c.to_word.result (g.E.Elem.word_of c.element-item.result)
          c.requires.kind c.to_word.ensures.word (g.met.E.Elem.laws.writes_below c.element-item.result
          c.to_word.ensures.fits)) c.loop-element.invariant.1 c.put_element.ensures,
    )

pub returns-clause-call : goal.returns-clause-call
returns-clause-call g c = part_written g.met.S.Steps.fits c.args.object c.args.header g.E.Elem.word_of c.args.start
    c.loop-element.element-index (length c.args.elements.now) c.args.elements.now
    (let a = c.loop-element.auto.element-index-end in let b = c.loop-element-test.false in omega arith) refl
    c.requires.role c.loop-element.invariant.1

pub returns-clause-known : goal.returns-clause-known
returns-clause-known g c =
    part_may g.met.S.Steps.fits c.args.object c.args.header c.requires.known c.loop-element.invariant.1
