-- How a board is laid out: each name has a number, and each number a cell.
use Rattle.std.specs.Prelude.{ℕ, List, Option}
use Rattle.std.specs.BTreeMap.{is_at}
use Rattle.std.specs.Map.{lookup}
use Rattle.std.specs.Sync.OnceLock.{Named}
use Rattle.jr_scripts.specs.declared.board.Posts.{Posts}
use Rattle.jr_scripts.specs.Names.{name_order}

-- the number of a name, where it has one
abbrev pub cell_number : List (List ℕ × ℕ) → List ℕ → Option ℕ
cell_number numbers n = lookup (is_at (name_order n)) numbers

-- HOW A BOARD IS LAID OUT, which no thread changes: the numbers of its names, and the cells at these numbers
pub record Layout : Type 0 where
  pub numbers : List (List ℕ × ℕ)
  pub cells : List Named

abbrev pub layout_of : {T : Type 0} → Posts T → Layout
layout_of posts = record { numbers = posts.numbers.entries; cells = posts.cells.items }
