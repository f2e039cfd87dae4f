-- What calls make of the frames.
use Rattle.std.specs.Prelude.{ℕ, List, Result}
use Rattle.jr_word.specs.declared.config.Config.{Config}
use Rattle.jr_word.specs.declared.fault.Fault.{Fault}
use Rattle.jr_model.specs.declared.event.Act.{Act}
use Rattle.jr_model.specs.State.{State}
use Rattle.jr_model.specs.Frames.{Frames, LeadsTo}
use Rattle.jr_model.specs.Calls.{Call}
use Rattle.jr_model.specs.Programs.{AnswerKind}
use Rattle.jr_model.specs.AllCalls.{CallOf, means}

-- A CALL MOVES THE FRAMES:
-- whatever it answers, its frames come from those before it by what a thread may do with frames
pub record MovesFrames {A : Type 0} (last thread : ℕ) (call : Call A) : Type 0 where
  pub leads : (old new : Frames) (acts : List Act) (answer : Result A Fault) → call old acts answer new
      → LeadsTo last thread old new

-- each call of an env
abbrev pub CallsMoveFrames : Config → ℕ → ℕ → State → Type 0
CallsMoveFrames c last thread s = (a : AnswerKind) (x : CallOf a) → MovesFrames last thread (means c last thread s x)
