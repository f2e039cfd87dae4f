use Rattle.std.proofs.Common.{◌≤◌}
use Rattle.jr_bench.proofs.calls.make_some.Given as goal

abbrev pub invariant-loop-handle : goal.invariant-loop-handle
invariant-loop-handle g l = l.right ≤ l.handle-index
