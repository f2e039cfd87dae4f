use Rattle.std.proofs.Common.{length}
use Rattle.jr_syntax.proofs.UnitLaws.{IsReading}
use Rattle.jr_syntax.proofs.text.units_of.Given as goal

abbrev pub decreases-loop-word : goal.decreases-loop-word
decreases-loop-word l = length l.words

-- what was read, and what is left
abbrev pub invariant-loop-word : goal.invariant-loop-word
invariant-loop-word l = IsReading l.fn.words l.words l.units l.in_range
