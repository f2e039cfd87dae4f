use Rattle.std.proofs.Common.{◌≡◌}
use Rattle.jr_threads.proofs.queue.QueueEnd.retry_put.Given as goal

abbrev pub invariant-loop : goal.invariant-loop
invariant-loop g l = (l.message ≡ l.fn.message) × (l.note ≡ l.fn.note)
