use Rattle.std.proofs.Common.{◌≡◌}
use Rattle.jr_model.specs.Maps.{count_below}
use Rattle.jr_frames.specs.Places.{gave_any, is_taken}
use Rattle.jr_frames.proofs.counting.count_places.Given as goal

abbrev pub invariant-loop-index : goal.invariant-loop-index
invariant-loop-index l = (l.standing ≡ count_below l.index (is_taken l.places.items))
    × (l.given ≡ count_below l.index (gave_any l.places.items))
