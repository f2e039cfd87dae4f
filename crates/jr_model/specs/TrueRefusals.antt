-- What the refusals of each call say of the room that all threads share, and at which moment of the call it was so.
use Rattle.std.specs.Prelude.{ℕ, Err}
use Rattle.jr_word.specs.declared.config.Config.{Config}
use Rattle.jr_word.specs.declared.fault.Fault.{Fault}
use Rattle.jr_model.specs.State.{State}
use Rattle.jr_model.specs.History.{PassView}
use Rattle.jr_model.specs.Frames.{Frames}
use Rattle.jr_model.specs.Refusals.{WasSo}
use Rattle.jr_model.specs.Calls.{Call, Ran}
use Rattle.jr_model.specs.Programs.{AnswerKind}
use Rattle.jr_model.specs.AllCalls.{CallOf, PartOf, words_asked, words_asked_by_part, means, part_means}

-- A CALL THAT ASKS FOR SO MANY WORDS REFUSES TRULY:
-- whatever it is refused for, and whatever the other threads did, what the refusal says of the room was so in the call
abbrev pub RefusesTruly : {A : Type 0} → ℕ → Call A → Type 0
RefusesTruly asked call =
    (old new : PassView) (f g : Frames) (e : Fault) (r : Ran old new f g call (Err e)) → WasSo asked r.begun old new e

-- each call of an env
abbrev pub CallsRefuseTruly : Config → ℕ → ℕ → State → Type 0
CallsRefuseTruly c last thread s =
    (a : AnswerKind) (x : CallOf a) → RefusesTruly (words_asked x) (means c last thread s x)

-- each other call
abbrev pub PartsRefuseTruly : Config → ℕ → ℕ → State → Type 0
PartsRefuseTruly c last thread s =
    (a : AnswerKind) (x : PartOf a) → RefusesTruly (words_asked_by_part x) (part_means c last thread s x)
