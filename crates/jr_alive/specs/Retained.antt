-- What an object of a dump keeps alive.
use Rattle.std.specs.Prelude.{◌≡◌, ◌↔◌, ◌+◌, ℕ, Bool, true, if◌then◌else◌, None, length, slice_index_or}
use Rattle.jr_census.specs.Dumps.{noted_length}
use Rattle.jr_model.specs.Maps.{sum_below}
use Rattle.jr_alive.specs.declared.dump.Dump.{Dump}
use Rattle.jr_alive.specs.Graph.{IsAlive}

-- how many words the objects have together that pass the test
abbrev pub words_passing : Dump → (ℕ → Bool) → ℕ
words_passing d test = sum_below (length d.headers.items) (λ j.
    if test (j + 1) then noted_length (slice_index_or d.headers.items j None) else 0)

-- SO MANY WORDS AN OBJECT RETAINS: those of the objects that are reached, but not once it is taken out
pub record IsRetained (d : Dump) (x n : ℕ) : Type 0 where
  pub retains : ℕ → Bool
  pub exactly : (o : ℕ) → (retains o ≡ true) ↔ (IsAlive d 0 o × ¬ (IsAlive d x o))
  pub words : n ≡ words_passing d retains
