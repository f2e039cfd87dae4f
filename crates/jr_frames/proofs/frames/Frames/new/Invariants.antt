use Rattle.std.proofs.Common.{◌≡◌, replicate}
use Rattle.jr_frames.specs.Places.{unused}
use Rattle.jr_frames.proofs.frames.Frames.new.Given as goal

abbrev pub invariant-loop : goal.invariant-loop
invariant-loop l = l.places.items ≡ replicate l.counter unused
