use Rattle.std.proofs.Common.{◌≡◌, ◌++◌, length, map, vec_capacity, vec_len}
use Rattle.jr_threads.specs.Sites.{waiting_at}
use Rattle.jr_threads.proofs.closing.Places.new.Given as goal

-- each pass so far waits at its place, and there is room for all
abbrev pub invariant-loop-pass : goal.invariant-loop-pass
invariant-loop-pass g l = record {
  all : l.fn.passes.items ≡ l.yielded ++ l.pass-iterator.rest.items;
  threads : l.threads.items ≡ map waiting_at l.yielded;
  count : vec_len l.threads ≡ length l.yielded;
  room : vec_capacity l.threads ≡ l.count;
}
