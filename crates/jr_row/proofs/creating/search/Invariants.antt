use Rattle.std.proofs.Common.{◌≡◌, None}
use Rattle.jr_row.specs.Searching.{InTurn, Searched}
use Rattle.jr_row.proofs.creating.search.Given as goal

abbrev pub invariant-loop-slot : goal.invariant-loop-slot
invariant-loop-slot g l =
    Searched g.S.Steps.facts l.fn.steps l.steps l.kind l.object (InTurn l.first l.slot) l.first l.slot None
    × ((g.S.Steps.facts l.steps).hint ≡ (g.S.Steps.facts l.fn.steps).hint)
