use Rattle.std.specs.Prelude.{◌≡◌, length}
use Rattle.jr_census.specs.Telling.{LoadsTell}
use Rattle.jr_census.proofs.LocalsDumped.{PlacesKept, SamePlaces}
use Rattle.jr_census.proofs.dump.note_locals_of.Given as goal

abbrev pub invariant-loop-place : goal.invariant-loop-place
invariant-loop-place g l =
    LoadsTell g.S.Steps.facts (λ j. l.place) l.fn.steps l.steps (PlacesKept l.fn.start l.fn.thread l.place l.locals)
    × (length l.locals ≡ length l.fn.locals) × SamePlaces l.fn.start l.fn.locals l.locals
