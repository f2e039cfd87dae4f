-- Threads that own a room together, as they were started.
use Rattle.std.specs.Prelude.{◌≡◌, ◌⊎◌, ◌++◌, List, []}
use Rattle.jr_word.specs.declared.config.Config.{Config}
use Rattle.jr_rule.specs.declared.pass.Pass.{Pass}
use Rattle.jr_rule.specs.declared.row.Row.{Row}
use Rattle.jr_rule.specs.Passes.{AreOpened}

-- THREADS WERE STARTED with these passes:
-- those of one row of these sizes, as it was opened, one for each thread, from thread 0 upward
pub record AreStarted (c : Config) (passes : List Pass) : Type 0 where
  pub row : Row
  pub opened : AreOpened c 4294967295 row passes

-- THE FIRST THREADS WERE STARTED with these passes: of such a row the others are the rest
abbrev pub AreFirstStarted : Config → List Pass → Type 0
AreFirstStarted c passes = (passes ≡ []) ⊎ ((rest : List Pass) × AreStarted c (passes ++ rest))
