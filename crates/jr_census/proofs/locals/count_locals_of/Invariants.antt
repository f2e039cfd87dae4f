use Rattle.std.specs.Prelude.{◌≤◌}
use Rattle.jr_census.specs.Telling.{LoadsTell}
use Rattle.jr_census.proofs.LocalsCounted.{PlacesBelow}
use Rattle.jr_census.proofs.locals.count_locals_of.Given as goal

abbrev pub invariant-loop-place : goal.invariant-loop-place
invariant-loop-place g l =
    LoadsTell g.S.Steps.facts (λ j. l.place) l.fn.steps l.steps (PlacesBelow l.fn.thread l.place l.count)
    × (l.count ≤ l.place)
