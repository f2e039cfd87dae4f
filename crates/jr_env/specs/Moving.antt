-- What calls make of the frames of their thread, calls of one's own too.
use Rattle.std.specs.Prelude.{Result}
use Rattle.jr_word.specs.declared.fault.Fault.{Fault}
use Rattle.jr_model.specs.Frames.{LeadsTo}
use Rattle.jr_gate.specs.Performing.{ThreadState}
use Rattle.jr_env.specs.Deeds.{Deed, after_exit, whole, in_a_stay}
use Rattle.jr_env.specs.Requests.{Request}

-- the deed moves the frames: those behind it come from those before it by what a thread may do with frames
abbrev pub DeedMovesFrames : {A : Type 0} → Deed A → Type 0
DeedMovesFrames {A} deed = (old new : ThreadState) (answer : Result A Fault) → deed old answer new
    → LeadsTo old.pass.last old.pass.thread old.frames new.frames

-- EACH CALL MOVES THE FRAMES, whatever it requests: made whole, behind the exit from a stay, and in a stay
pub record RequestMovesFrames {A : Type 0} (request : Request A) : Type 0 where
  pub made_whole : DeedMovesFrames (whole request)
  pub behind_exit : DeedMovesFrames (after_exit (whole request))
  pub within : DeedMovesFrames (in_a_stay request)
