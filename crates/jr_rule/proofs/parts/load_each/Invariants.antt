use Rattle.std.proofs.Common.{◌≡◌, ◌*◌, take, length}
use Rattle.jr_steps.specs.Knowing.{KnowsHeader, MayKnow, SawPart}
use Rattle.jr_rule.specs.Parts.{facts_within}
use Rattle.jr_rule.proofs.parts.load_each.Given as goal

abbrev pub invariant-loop-eight : goal.invariant-loop-eight
invariant-loop-eight g l =
    g.C.Cells.are_at l.cells l.place
    × ((g.C.Cells.sight l.cells).first.config ≡ (g.C.Cells.sight l.fn.cells).first.config)
    × (length l.elements ≡ length l.fn.elements)
    × MayKnow (facts_within g.C.Cells.sight) l.cells (KnowsHeader l.fn.object l.fn.header)
    × SawPart (facts_within g.C.Cells.sight) l.fn.cells l.cells l.fn.object l.fn.header l.fn.start g.E.Elem.element_of
    (take (l.eight * 8) l.elements)
