use Rattle.jr_alive.proofs.Rooted.{GlobalsTo}
use Rattle.jr_alive.proofs.search.Search.reach_globals.Given as goal

abbrev pub invariant-loop-index : goal.invariant-loop-index
invariant-loop-index l = GlobalsTo l.dump l.without l.index l.self.entries.items l.self.queue.items
