use Rattle.std.proofs.Common.{◌≡◌, take}
use Rattle.jr_scripts.specs.Places.{newest}
use Rattle.jr_scripts.proofs.region.newest_level.Given as goal

abbrev pub invariant-loop-i : goal.invariant-loop-i
invariant-loop-i l = l.found ≡ newest (take l.i l.names.items) l.name
