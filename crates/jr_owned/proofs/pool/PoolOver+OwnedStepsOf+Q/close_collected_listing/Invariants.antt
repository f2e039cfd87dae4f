use Rattle.std.proofs.Common.{◌≡◌}
use Rattle.jr_weak.specs.Markers.{room_of}
use Rattle.jr_owned.proofs.pool.PoolOver+OwnedStepsOf+Q.close_collected_listing.Given as goal

abbrev pub invariant-loop-place : goal.invariant-loop-place
invariant-loop-place g l = room_of l.marker ≡ room_of l.initial.marker
