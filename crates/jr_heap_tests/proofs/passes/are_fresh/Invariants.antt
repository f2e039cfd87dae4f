use Rattle.std.proofs.Common.{All}
use Rattle.jr_rule.specs.Passes.{IsOpened}
use Rattle.jr_heap_tests.proofs.passes.are_fresh.Given as goal

abbrev pub invariant-loop-thread : goal.invariant-loop-thread
invariant-loop-thread l = All (λ p. IsOpened l.room.row p) l.passes.items
