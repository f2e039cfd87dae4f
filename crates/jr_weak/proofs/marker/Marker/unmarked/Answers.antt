use Rattle.std.proofs.Common.{rules, ◌≡◌, ◌+◌, ◌≤◌, length, replicate, false, arith}
use Rattle.jr_weak.proofs.Queues.{queue_empty, empty_marks}
use Rattle.jr_weak.proofs.marker.Marker.unmarked.Goals as goal

pub invariant_of-result : goal.invariant_of-result
invariant_of-result c =
    let is : c.in_ok-marked.marked.items ≡ replicate (c.args.objects + 1) false = search rules in
    let long : length c.in_ok-found.found.items ≡ c.args.objects = search rules in
    let room : length c.in_ok-noted.noted.items ≡ c.args.objects = search rules in
    let fits : c.args.objects ≤ 65535 = c.requires in
    record {
      queue = queue_empty c.in_ok-marked.marked.items (c.args.objects + 1) c.in_ok-found.found.items is (omega arith);
      same_room = omega arith;
      few = omega arith;
    }

pub returns-clause-none : goal.returns-clause-none
returns-clause-none c =
    let is : c.in_ok-marked.marked.items ≡ replicate (c.args.objects + 1) false = search rules in
    empty_marks c.in_ok-marked.marked.items (c.args.objects + 1) is
