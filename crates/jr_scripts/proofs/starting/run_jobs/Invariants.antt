use Rattle.std.proofs.Common.{◌≡◌, ◌++◌, map, vec_len}
use Rattle.std.specs.List.{All}
use Rattle.jr_scripts.specs.Jobs.{IsFor}
use Rattle.jr_scripts.proofs.JobHandles.{Thread, given_to}
use Rattle.jr_scripts.proofs.starting.run_jobs.Given as goal

abbrev pub invariant-loop-alloc : goal.invariant-loop-alloc
invariant-loop-alloc g l = record {
  all : map given_to l.handles.items ++ l.jobs.items ≡ l.fn.jobs.items;
  at : All (λ j. IsFor l.room.row j) l.jobs.items;
  over : All (λ (h : Thread _). h.promise.board.now ≡ l.board) l.handles.items;
}

abbrev pub decreases-loop-alloc : goal.decreases-loop-alloc
decreases-loop-alloc g l = vec_len l.jobs
