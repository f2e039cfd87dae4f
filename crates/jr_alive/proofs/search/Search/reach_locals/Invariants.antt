use Rattle.jr_alive.proofs.Rooted.{LocalsTo}
use Rattle.jr_alive.proofs.search.Search.reach_locals.Given as goal

abbrev pub invariant-loop-index : goal.invariant-loop-index
invariant-loop-index l = LocalsTo l.dump l.without l.index l.fn.self.entries.items l.fn.self.queue.items
    l.self.entries.items l.self.queue.items
