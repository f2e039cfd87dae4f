use Rattle.std.proofs.Common.{◌≡◌, None, take}
use Rattle.jr_world.specs.Board.{word_under}
use Rattle.jr_scripts.proofs.words.word_under.Given as goal

abbrev pub invariant-loop-entry : goal.invariant-loop-entry
invariant-loop-entry l = word_under (take l.entry-index l.words) l.name ≡ None
