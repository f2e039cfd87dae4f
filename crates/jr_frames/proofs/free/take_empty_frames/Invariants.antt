use Rattle.std.proofs.Common.{length}
use Rattle.jr_frames.proofs.DroppingAll.{IsFreed}
use Rattle.jr_frames.proofs.free.take_empty_frames.Given as goal

abbrev pub invariant-loop-frames : goal.invariant-loop-frames
invariant-loop-frames l = IsFreed l.initial.frames l.frames

abbrev pub decreases-loop-frames : goal.decreases-loop-frames
decreases-loop-frames l = length l.frames.frames.frames
