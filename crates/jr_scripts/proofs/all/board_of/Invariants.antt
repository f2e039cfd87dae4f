use Rattle.std.proofs.Common.{[], take}
use Rattle.jr_scripts.specs.PostedNames.{AddsPosted, commands_of}
use Rattle.jr_scripts.proofs.all.board_of.Given as goal

abbrev pub invariant-loop-part : goal.invariant-loop-part
invariant-loop-part g l = AddsPosted (commands_of (take l.part-index l.parts)) [] l.board.numbers.entries
