use Rattle.std.specs.Fmt.{HasWritten, IsPlainFormatter}
use Rattle.jr_census.specs.Printed.{locals_text}
use Rattle.jr_census.proofs.printing.write_locals.Given as goal

abbrev pub invariant-loop-thread : goal.invariant-loop-thread
invariant-loop-thread g l = IsPlainFormatter l.initial.f
    → HasWritten g.W.Write.write_str_gives l.initial.f (locals_text l.fn.counts l.thread) l.f
