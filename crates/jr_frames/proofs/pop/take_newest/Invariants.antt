use Rattle.std.proofs.Common.{length}
use Rattle.jr_model.specs.Frames.{last_frame}
use Rattle.jr_frames.proofs.DroppingFrame.{IsTaking}
use Rattle.jr_frames.proofs.pop.take_newest.Given as goal

abbrev pub invariant-loop-handle : goal.invariant-loop-handle
invariant-loop-handle g l = IsTaking g.S.Steps.facts l.initial.steps l.steps l.initial.frames l.frames

abbrev pub decreases-loop-handle : goal.decreases-loop-handle
decreases-loop-handle g l = length (last_frame l.frames.frames.frames)
