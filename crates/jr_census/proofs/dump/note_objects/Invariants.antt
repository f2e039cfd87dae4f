use Rattle.std.specs.Prelude.{◌≡◌, ◌+◌, length}
use Rattle.jr_census.specs.Telling.{LoadsTell}
use Rattle.jr_census.proofs.Dumped.{EndBefore, ObjectsKept, words_to}
use Rattle.jr_census.proofs.dump.note_objects.Given as goal

abbrev pub invariant-loop-index : goal.invariant-loop-index
invariant-loop-index g l = LoadsTell g.S.Steps.facts (λ j. l.index + words_to l.index j) l.fn.steps l.steps
    (ObjectsKept l.index l.start l.headers l.words) × (length l.headers ≡ length l.fn.headers)
    × (length l.words ≡ length l.fn.words) × EndBefore l.index l.headers l.start
