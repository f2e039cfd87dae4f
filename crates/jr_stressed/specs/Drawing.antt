-- How a stress goes from call to call.
use Rattle.std.specs.Prelude.{◌+◌, ◌%◌, ◌^◌, ℕ}
use Rattle.rand_pcg.specs.Lcg.{started, increment_of}
use Rattle.rand_pcg.specs.Pcg.{multiplier_64, pcg32}
use Rattle.jr_stressed.specs.declared.turns.Turns.{Turns}

-- before the first call
abbrev pub first_turns : ℕ → Turns
first_turns seed = record { calls = 0; draws = started 64 multiplier_64 seed (increment_of 64 0) }

-- one call more, for which a word is drawn
abbrev pub next_turns : Turns → Turns
next_turns t = record { calls = (t.calls + 1) % 2 ^ 64; draws = (pcg32 t.draws).1 }
