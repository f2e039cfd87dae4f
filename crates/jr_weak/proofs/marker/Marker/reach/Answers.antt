use Rattle.std.proofs.Common.{length-set, ◌+◌, true, slice_set, sym, subst, arith}
use Rattle.jr_weak.specs.Marks.{IsQueue}
use Rattle.jr_weak.proofs.Queues.{room, queue_next, not_marked}
use Rattle.jr_weak.proofs.marker.Marker.reach.Goals as goal

pub index_mut-requires-then-not-index : goal.index_mut-requires-then-not-index
index_mut-requires-then-not-index c =
    let s = c.args.self.now in
    let o = c.args.object in
    let n = c.requires.number.1 in
    let r = room s.marked.items s.found.items s.count s.queue o c.requires.number.0 (omega arith)
    (not_marked s.marked.items o c.from-at.result c.index.result.now c.from-at.ensures
    (let w = s.queue.wide in omega arith) c.index.ensures c.if-not-index.true) in omega arith

pub invariant_of-self : goal.invariant_of-self
invariant_of-self c =
    let s = c.args.self.now in
    let o = c.args.object in
    let n = c.requires.number.1 in
    let q = queue_next s.marked.items s.found.items s.count s.queue o c.requires.number.0 (omega arith)
    (not_marked s.marked.items o c.from-at.result c.index.result.now c.from-at.ensures
    (let w = s.queue.wide in omega arith) c.index.ensures c.if-not-index.true) in
    record {
      same_room = let r = s.same_room in let e = length-set s.found.items s.count o in omega arith;
      queue = subst (λ z. IsQueue (slice_set s.marked.items z true) (slice_set s.found.items s.count o) (s.count + 1))
          (sym c.from-at.ensures) q;
      few = let l = s.few in omega arith;
    }
