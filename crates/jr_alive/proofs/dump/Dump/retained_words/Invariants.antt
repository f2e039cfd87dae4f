use Rattle.std.specs.Prelude.{◌≡◌, ◌≤◌, ◌+◌, ◌*◌, None, if◌then◌else◌, slice_index_or}
use Rattle.jr_model.specs.Maps.{sum_below}
use Rattle.jr_census.specs.Dumps.{noted_length}
use Rattle.jr_alive.specs.Searching.{goes_with}
use Rattle.jr_alive.proofs.dump.Dump.retained_words.Given as goal

abbrev pub invariant-loop-index : goal.invariant-loop-index
invariant-loop-index l = record {
  sum : l.words ≡ sum_below l.index (λ j. if goes_with l.all.entries.items l.rest.entries.items (j + 1)
      then noted_length (slice_index_or l.self.headers.items j None) else 0);
  few : l.words ≤ l.index * 4294967295;
}
