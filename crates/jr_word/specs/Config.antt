-- The limits of a room's sizes.
use Rattle.std.specs.Prelude.{ℕ, ◌+◌, ◌*◌, ◌≤◌, Bool, ◌&&◌, nat_le}
use Rattle.jr_word.specs.declared.config.Config.{Config}
use Rattle.jr_word.specs.declared.config.TheConstants.Config.{MOST_THREADS, MOST_SLOTS, MOST_OBJECTS}
use Rattle.jr_word.specs.declared.config.TheConstants.Config.{MOST_WORDS, LEAST_LOCALS, MOST_LOCALS}

-- whether a number lies between two limits, both allowed
abbrev pub is_between : ℕ → ℕ → ℕ → Bool
is_between low high n = nat_le low n && nat_le n high

-- the limits of a configuration, in numbers of its own: a changed constant of the code is refused
abbrev pub in_limits : Config → Bool
in_limits c = is_between 1 64 c.threads && is_between 1 65536 c.slots && is_between 1 65535 c.objects
    && is_between 0 1048576 c.words && is_between 16 4096 c.locals

-- the limits of a configuration, one by one
pub record IsLimited (c : Config) : Type 0 where
  pub threads : (1 ≤ c.threads) × (c.threads ≤ MOST_THREADS)
  pub slots : (1 ≤ c.slots) × (c.slots ≤ MOST_SLOTS)
  pub objects : (1 ≤ c.objects) × (c.objects ≤ MOST_OBJECTS)
  pub words : c.words ≤ MOST_WORDS
  pub locals : (LEAST_LOCALS ≤ c.locals) × (c.locals ≤ MOST_LOCALS)

-- how many words the row of a room has:
-- the gate, the top, the slots, the local words of each thread, the headers of objects, and the element words
abbrev pub row_words : Config → ℕ
row_words c = 2 + c.slots + c.threads * c.locals + c.objects + c.words
