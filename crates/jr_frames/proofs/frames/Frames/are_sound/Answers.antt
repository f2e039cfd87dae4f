use Rattle.std.proofs.Common.{subst}
use Rattle.jr_model.specs.Frames.{AreSound}
use Rattle.jr_frames.specs.Table.{Table}
use Rattle.jr_frames.proofs.Sound.{sound}
use Rattle.jr_frames.proofs.frames.Frames.are_sound.Goals as goal

pub returns : goal.returns
returns c = subst (λ (t : Table). AreSound t.frames) c.self.view_is
    (sound c.self.inside c.self.invariant)
