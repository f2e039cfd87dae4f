use Rattle.std.proofs.Common.{◌≡◌, ◌+◌, ◌++◌, ℕ, List, drop, length}
use Rattle.jr_rule.specs.declared.pass.Pass.{Pass}
use Rattle.jr_scripts.specs.Jobs.{AreTold, IsOver, IsToldBy, board_noted, rank_noted}
use Rattle.std.specs.List.{All, AllByRecursion}
use Rattle.jr_scripts.specs.Layouts.{layout_of}
use Rattle.jr_scripts.proofs.gathering.told_by.Given as goal

abbrev pub invariant-loop-part : goal.invariant-loop-part
invariant-loop-part g l = record {
  each : length l.runs.items + l.part-index ≡ length l.parts;
  told : (ps : List Pass) (rest : List ℕ) → AreTold (drop l.part-index l.parts) l.runs.items ps rest
      → AreTold l.parts l.fn.runs.items (l.passes.items ++ ps) (l.text.items ++ rest);
  over : All (IsOver (layout_of l.all.posts.now)) l.runs.items;
  noted : AllByRecursion (IsToldBy (board_noted l.all.posts.now.numbers.entries l.all.notes.items)
      (rank_noted l.all.posts.now.numbers.entries l.all.notes.items)) l.runs.items
      → AllByRecursion (IsToldBy (board_noted l.all.posts.now.numbers.entries l.all.notes.items)
      (rank_noted l.all.posts.now.numbers.entries l.all.notes.items)) l.fn.runs.items;
}
