use Rattle.std.proofs.Common.{◌≡◌, length, vec_capacity, vec_len}
use Rattle.jr_elements.proofs.copying.zeros.Given as goal

-- so many stand, and there is room for all
abbrev pub invariant-loop : goal.invariant-loop
invariant-loop g l = record {
  long : length l.items.items ≡ l.counter;
  count : vec_len l.items ≡ l.counter;
  room : vec_capacity l.items ≡ l.count;
}
