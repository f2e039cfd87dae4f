use Rattle.std.proofs.Common.{take}
use Rattle.std.specs.Fmt.{HasWritten, IsPlainFormatter}
use Rattle.jr_census.specs.Printed.{kinds_text}
use Rattle.jr_census.proofs.printing.KindCountsDisplay.fmt.Given as goal

abbrev pub invariant-loop-kind : goal.invariant-loop-kind
invariant-loop-kind g l = IsPlainFormatter l.initial.f
    → HasWritten g.W.Write.write_str_gives l.initial.f (kinds_text l.fn.self (take l.kind-index l.kind-items)) l.f
