use Rattle.std.proofs.Common.{length}
use mathlib.Core.Logic.{∥∥₁_map}
use Rattle.jr_heap.proofs.ReadParts.{part_seen, part_seen_may}
use Rattle.jr_heap.proofs.part.read_part.Goals as goal

pub see_part-requires-clause-known : goal.see_part-requires-clause-known
see_part-requires-clause-known g c = ∥∥₁_map c.requires.known (λ k. (k.0, k.1, k.2.known))

pub returns-clause-call : goal.returns-clause-call
returns-clause-call g c = part_seen g.met.S.Steps.fits c.args.object c.args.header g.E.Elem.KIND c.requires.kind
    g.E.Elem.element_of g.E.Elem.word_of g.met.E.Elem.laws.takes_below c.args.start (length c.args.elements.now)
    c.see_part.new.elements c.requires.role c.see_part.ensures.size c.see_part.ensures.steps

pub returns-clause-known : goal.returns-clause-known
returns-clause-known g c = part_seen_may g.met.S.Steps.fits c.args.object c.args.header g.E.Elem.KIND c.requires.kind
    g.E.Elem.element_of g.E.Elem.word_of g.met.E.Elem.laws.takes_below c.args.start (length c.args.elements.now)
    c.see_part.new.elements c.requires.role c.see_part.ensures.steps c.requires.known
