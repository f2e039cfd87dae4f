use Rattle.std.proofs.Common.{rules, ◌≡◌, length, replicate, false}
use Rattle.jr_weak.proofs.Queues.{queue_empty, empty_marks}
use Rattle.jr_weak.proofs.marker.Marker.forget.Goals as goal

pub invariant_of-self : goal.invariant_of-self
invariant_of-self c =
    let s = c.args.self.now in
    let is : c.fill.new.self.items ≡ replicate (length s.marked.items) false = search rules in
    record {
      queue = queue_empty c.fill.new.self.items (length s.marked.items) s.found.items is s.queue.wide;
      same_room = s.same_room;
      few = s.few;
    }

pub returns-clause-none : goal.returns-clause-none
returns-clause-none c =
    let s = c.args.self.now in
    let is : c.fill.new.self.items ≡ replicate (length s.marked.items) false = search rules in
    empty_marks c.fill.new.self.items (length s.marked.items) is
