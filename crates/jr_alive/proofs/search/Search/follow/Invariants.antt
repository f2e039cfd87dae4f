use Rattle.jr_alive.proofs.Followed.{Following}
use Rattle.jr_alive.proofs.search.Search.follow.Given as goal

abbrev pub invariant-loop-next : goal.invariant-loop-next
invariant-loop-next l = Following l.dump l.without l.next l.self.entries.items l.self.queue.items
