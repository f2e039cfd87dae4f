use Rattle.std.specs.Prelude.{◌+◌}
use Rattle.jr_alive.proofs.Elements.{ElementsTo}
use Rattle.jr_alive.proofs.search.Search.reach_elements.Given as goal

abbrev pub invariant-loop-index : goal.invariant-loop-index
invariant-loop-index l = ElementsTo l.dump l.without l.array l.index (l.depth + 1) l.fn.self.entries.items
    l.fn.self.queue.items l.self.entries.items l.self.queue.items
