use Rattle.std.specs.Prelude.{◌≡◌, ◌*◌, length}
use Rattle.jr_census.specs.Telling.{LoadsTell}
use Rattle.jr_census.proofs.LocalsDumped.{ThreadsKept}
use Rattle.jr_census.proofs.dump.note_locals.Given as goal

abbrev pub invariant-loop-thread : goal.invariant-loop-thread
invariant-loop-thread g l =
    LoadsTell g.S.Steps.facts (λ j. l.thread * j.config.locals) l.fn.steps l.steps (ThreadsKept l.thread l.locals)
    × (length l.locals ≡ length l.fn.locals)
