use Rattle.std.specs.Prelude.{◌≡◌, length}
use Rattle.jr_census.specs.Telling.{LoadsTell}
use Rattle.jr_census.proofs.Dumped.{SlotsKept}
use Rattle.jr_census.proofs.dump.note_slots.Given as goal

abbrev pub invariant-loop-index : goal.invariant-loop-index
invariant-loop-index g l = LoadsTell g.S.Steps.facts (λ j. l.index) l.fn.steps l.steps (SlotsKept l.index l.slots)
    × (length l.slots ≡ length l.fn.slots)
