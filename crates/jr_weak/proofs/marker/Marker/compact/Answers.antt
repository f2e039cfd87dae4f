use Rattle.std.proofs.Common.{rules}
use Rattle.jr_weak.specs.Markers.{room_of}
use Rattle.jr_weak.proofs.Together.{may_compact, acted_compact}
use Rattle.jr_weak.proofs.marker.Marker.compact.Goals as goal

pub compact-requires-clause-can : goal.compact-requires-clause-can
compact-requires-clause-can g c = let s = c.args.self.now in may_compact s.marked.items s.found.items s.count s.queue
    c.deref.result.now (search rules) g.S.Steps.facts c.args.steps.now c.requires.dropped

pub returns-clause-acts : goal.returns-clause-acts
returns-clause-acts g c = let s = c.args.self.now in
    acted_compact s.marked.items s.found.items s.count s.queue c.deref.result.now (search rules) g.S.Steps.facts
    c.args.steps.now c.compact.new.steps c.compact.result (room_of s) (search rules) c.compact.ensures.acts
