use Rattle.std.proofs.Common.{◌+◌, ◌-◌, length}
use Rattle.jr_model.specs.Frames.{all_refs}
use Rattle.jr_frames.proofs.DroppingAll.{IsFreeingSo}
use Rattle.jr_frames.proofs.free.empty_frames.Given as goal

abbrev pub invariant-loop-frame : goal.invariant-loop-frame
invariant-loop-frame g l = IsFreeingSo g.S.Steps.facts l.initial.steps l.steps l.initial.frames l.frames l.frame

abbrev pub decreases-loop-frame : goal.decreases-loop-frame
decreases-loop-frame g l = (length l.frames.frames.frames - l.frame) + length (all_refs l.frames.frames)
