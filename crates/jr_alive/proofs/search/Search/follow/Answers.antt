use Rattle.std.proofs.Common.{◌≡◌, ◌<◌, ◌+◌, length, slice_index_or, subst, arith}
use Rattle.std.proofs.lemmas.List.{get_or_read}
use Rattle.jr_alive.specs.Searching.{AreWithin}
use Rattle.jr_alive.proofs.Followed.{following_ends, following_goes, queue_few}
use Rattle.jr_alive.proofs.search.Search.follow.Goals as goal

pub returns-then-next-len : goal.returns-then-next-len
returns-then-next-len c =
    let s = c.loop-next.self in
    let long = s.queue.ok.0 in
    record {
      done = following_ends c.args.dump.now c.args.without c.loop-next.next s.entries.items s.queue.items
          c.loop-next.invariant (let l = c.len.ensures in let t = c.if-next-len.true in omega arith);
    }

pub loop-next-preserved : goal.loop-next-preserved
loop-next-preserved c =
    let s = c.loop-next.self in
    let long = s.queue.ok.0 in
    let there : c.loop-next.next < length s.queue.items =
    let l = c.len.ensures in let t = c.if-next-len.false in omega arith in
    let is : c.index-array.result.now ≡ slice_index_or s.queue.items c.loop-next.next 0 =
    get_or_read s.queue.items c.loop-next.next c.index-array.result.now there c.index-array.ensures 0 in
    let n = c.reach_elements.new.self in
    following_goes c.args.dump.now c.args.without c.loop-next.next s.entries.items s.queue.items c.loop-next.invariant
    there c.index-array.result.now is n.entries.items n.queue.items c.in_ok-reach_elements.ensures.stands
    (subst (λ k. AreWithin (k + 1) n.entries.items) c.depth-depth.ensures c.in_ok-reach_elements.ensures.farthest)
    c.in_ok-reach_elements.ensures.grows c.in_ok-reach_elements.ensures.found

pub returns : goal.returns
returns c =
    let s = c.loop-next.self in
    let old = c.args.self.now in
    let all = queue_few c.args.dump.now c.args.without s.entries.items s.queue.items c.loop-next.invariant.stands in
    let wide = c.loop-next.invariant.stands.wide in
    let first = c.requires.stands.wide in
    let long = old.entries.ok.0 in
    record {
      done = following_ends c.args.dump.now c.args.without c.loop-next.next s.entries.items s.queue.items
          c.loop-next.invariant (let l = c.len-next-end.ensures in let t = c.loop-next-test.false in omega arith);
    }
