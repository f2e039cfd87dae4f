use Rattle.jr_census.specs.Counts.{AreFew}
use Rattle.jr_census.specs.Telling.{LoadsTell}
use Rattle.jr_census.proofs.SlotsCounted.{SlotsBelow}
use Rattle.jr_census.proofs.slots.count_slots.Given as goal

abbrev pub invariant-loop-index : goal.invariant-loop-index
invariant-loop-index g l = LoadsTell g.S.Steps.facts (λ j. l.index) l.fn.steps l.steps (SlotsBelow l.index l.counted)
    × AreFew l.index l.counted
