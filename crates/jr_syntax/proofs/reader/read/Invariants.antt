use Rattle.std.proofs.Common.{length}
use Rattle.jr_syntax.proofs.Reading.{IsRead}
use Rattle.jr_syntax.proofs.reader.read.Given as goal

abbrev pub decreases-loop-line : goal.decreases-loop-line
decreases-loop-line l = length l.lines

-- what was read, and what is left, are the text
abbrev pub invariant-loop-line : goal.invariant-loop-line
invariant-loop-line l = IsRead l.text l.number l.draft l.lines
