use Rattle.std.proofs.Common.{Result, ◌-◌}
use Rattle.jr_word.specs.declared.fault.Fault.{Fault}
use Rattle.jr_env.specs.Tries.{CalledAgain}
use Rattle.jr_env.proofs.patience.with_patience.Given as goal

abbrev pub invariant-loop : goal.invariant-loop
invariant-loop g l =
    goal.F-IsAlwaysCallable g l.body
    × ((answer : Result _ Fault) (last : _ × _)
    → CalledAgain g.F.FnMut l.patience.waits_for_room (l.patience.more - l.counter) (l.body, l.env) answer last
    → CalledAgain g.F.FnMut l.patience.waits_for_room l.patience.more (l.fn.body, l.fn.env) answer last)
