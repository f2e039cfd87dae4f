use Rattle.std.proofs.Common.{◌≡◌}
use Rattle.jr_scripts.proofs.sightings.Sightings.of_all.Given as goal

abbrev pub invariant-loop-number : goal.invariant-loop-number
invariant-loop-number g l = l.all.posts.now ≡ l.posts
