use Rattle.std.specs.Prelude.{◌≡◌, ◌*◌, length}
use Rattle.jr_census.specs.Telling.{LoadsTell}
use Rattle.jr_census.proofs.LocalsCounted.{NoneBeyond, ThreadsBelow}
use Rattle.jr_census.proofs.locals.count_locals.Given as goal

abbrev pub invariant-loop-thread : goal.invariant-loop-thread
invariant-loop-thread g l =
    LoadsTell g.S.Steps.facts (λ j. l.thread * j.config.locals) l.fn.steps l.steps (ThreadsBelow l.thread l.counts)
    × (length l.counts ≡ 64) × NoneBeyond l.thread l.counts
