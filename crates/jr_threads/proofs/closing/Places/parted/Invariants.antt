use Rattle.std.proofs.Common.{◌≡◌, ◌≤◌, ◌++◌, length, vec_capacity, vec_len}
use Rattle.jr_threads.specs.Sites.{answers_in, ended_in, passes_in}
use Rattle.jr_threads.proofs.closing.Places.parted.Given as goal

-- what came so far stands there, and there is room for all
abbrev pub invariant-loop-place : goal.invariant-loop-place
invariant-loop-place g l = record {
  all : l.fn.self.threads.items ≡ l.yielded ++ l.place-iterator.rest.items;
  answers : l.answers.items ≡ answers_in (ended_in l.yielded);
  passes : l.passes.items ≡ passes_in (ended_in l.yielded);
  answered : vec_len l.answers ≡ length l.yielded;
  passed : vec_len l.passes ≡ length l.yielded;
  for_answers : length l.fn.self.threads.items ≤ vec_capacity l.answers;
  for_passes : length l.fn.self.threads.items ≤ vec_capacity l.passes;
}
