use Rattle.std.proofs.Common.{◌≡◌, ◌++◌, drop}
use Rattle.std.specs.List.{flat_map}
use Rattle.jr_syntax.specs.Script.{all_apart, posted, posts_of}
use Rattle.jr_syntax.proofs.once.commands_post_once.Given as goal

abbrev pub invariant-loop-i : goal.invariant-loop-i
invariant-loop-i l = all_apart (flat_map posted l.commands ++ posts_of l.later)
    ≡ all_apart (flat_map posted (drop l.i l.commands) ++ posts_of l.later)
