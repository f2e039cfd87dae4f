use Rattle.std.proofs.Common.{◌≡◌, ◌+◌, take, map}
use Rattle.jr_model.specs.Parts.{write_acts}
use Rattle.jr_heap.proofs.Parts.{PartDone}
use Rattle.jr_heap.proofs.part.write_part.Given as goal

abbrev pub invariant-loop-element : goal.invariant-loop-element
invariant-loop-element g l =
    (l.index ≡ l.start + l.element-index) × PartDone g.S.Steps.facts l.object l.header (write_acts l.object l.start
    (map g.E.Elem.word_of (take l.element-index l.elements))) l.element-index l.fn.steps l.steps
