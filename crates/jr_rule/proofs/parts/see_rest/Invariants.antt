use Rattle.std.proofs.Common.{◌≡◌, length}
use Rattle.jr_steps.specs.Knowing.{KnowsHeader, MayKnow}
use Rattle.jr_rule.specs.Parts.{facts_within, ReadsTo}
use Rattle.jr_rule.proofs.parts.see_rest.Given as goal

abbrev pub invariant-loop-index : goal.invariant-loop-index
invariant-loop-index g l =
    g.C.Cells.are_at l.cells l.place
    × ((g.C.Cells.sight l.cells).first.config ≡ (g.C.Cells.sight l.fn.cells).first.config)
    × (length l.elements ≡ length l.fn.elements)
    × MayKnow (facts_within g.C.Cells.sight) l.cells (KnowsHeader l.part.object l.part.header)
    × ReadsTo g.C.Cells.sight l.part.object l.part.header l.part.start g.E.Elem.element_of l.done l.index
    l.fn.cells l.cells l.fn.elements l.elements
