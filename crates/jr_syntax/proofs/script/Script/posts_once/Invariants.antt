use Rattle.std.proofs.Common.{◌≡◌, drop}
use Rattle.jr_syntax.specs.Script.{all_apart, posts_of}
use Rattle.jr_syntax.proofs.script.Script.posts_once.Given as goal

abbrev pub invariant-loop-i : goal.invariant-loop-i
invariant-loop-i l = all_apart (posts_of l.parts) ≡ all_apart (posts_of (drop l.i l.parts))
