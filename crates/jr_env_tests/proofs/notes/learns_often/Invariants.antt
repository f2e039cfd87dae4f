use Rattle.jr_rule.specs.Rooms.{IsPinnedThere}
use Rattle.jr_env_tests.proofs.notes.learns_often.Given as goal

abbrev pub invariant-loop : goal.invariant-loop
invariant-loop l = IsPinnedThere l.steps l.pinned
