use Rattle.std.proofs.Common.{take}
use Rattle.jr_scripts.specs.PostedNames.{AddsPosted}
use Rattle.jr_scripts.proofs.board.Posts.add.Given as goal

abbrev pub invariant-loop-command : goal.invariant-loop-command
invariant-loop-command g l =
    AddsPosted (take l.command-index l.commands) l.fn.self.numbers.entries l.self.numbers.entries
