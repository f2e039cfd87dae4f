use Rattle.std.specs.Prelude.{◌≡◌, ◌≤◌, ◌*◌, count_by, sum_by, take}
use Rattle.jr_alive.specs.Groups.{is_noted_as, words_if}
use Rattle.jr_alive.proofs.dump.Dump.group.Given as goal

abbrev pub invariant-loop-header : goal.invariant-loop-header
invariant-loop-header l = record {
  count : l.count ≡ count_by (is_noted_as l.kind) (take l.header-index l.self.headers.items);
  words : l.words ≡ sum_by (words_if l.kind) (take l.header-index l.self.headers.items);
  few : l.words ≤ l.header-index * 4294967295;
  fits : l.count ≤ l.header-index;
}
