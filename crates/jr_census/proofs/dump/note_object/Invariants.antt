use Rattle.std.specs.Prelude.{◌≡◌, ◌+◌, length}
use Rattle.jr_census.specs.Telling.{LoadsTell}
use Rattle.jr_census.proofs.Dumped.{ElementsKept, SameBefore}
use Rattle.jr_census.proofs.dump.note_object.Given as goal

abbrev pub invariant-loop-index : goal.invariant-loop-index
invariant-loop-index g l = LoadsTell g.S.Steps.facts (λ j. l.index + 1) l.fn.steps l.steps
    (ElementsKept l.object l.header l.start l.index l.words) × (length l.words ≡ length l.fn.words)
    × SameBefore l.start l.fn.words l.words
