use Rattle.std.proofs.Common.{rules}
use Rattle.jr_weak.proofs.Queues.{listed_each, listed_once}
use Rattle.jr_weak.proofs.marker.Marker.found.Goals as goal

pub returns-clause-each : goal.returns-clause-each
returns-clause-each c = let s = c.args.self.now in
    listed_each s.marked.items s.found.items s.count s.queue c.deref.result.now (search rules)

pub returns-clause-once : goal.returns-clause-once
returns-clause-once c = let s = c.args.self.now in
    listed_once s.marked.items s.found.items s.count s.queue c.deref.result.now (search rules)
