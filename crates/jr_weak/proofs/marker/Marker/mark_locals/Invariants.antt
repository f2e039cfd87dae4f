use Rattle.std.specs.Prelude.{◌≡◌, ◌*◌, vec_len}
use Rattle.jr_weak.specs.Marking.{MarkedTo}
use Rattle.jr_weak.proofs.RootMarks.{ThreadsBelow}
use Rattle.jr_weak.proofs.marker.Marker.mark_locals.Given as goal

abbrev pub invariant-loop-thread : goal.invariant-loop-thread
invariant-loop-thread g l = MarkedTo g.S.Steps.facts (λ j. l.thread * j.config.locals) l.fn.self.marked.items
    l.self.marked.items l.fn.steps l.steps (ThreadsBelow l.thread) × (vec_len l.self.found ≡ vec_len l.fn.self.found)
