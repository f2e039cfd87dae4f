-- What a refused creation tells of the room, and which calls are stays of their own.
use Rattle.std.specs.Prelude.{◌≡◌, ◌⊎◌, ◌<◌, ℕ, Bool, true, Option, Result, Err, List, ◌∷◌, ◌++◌}
use Rattle.jr_word.specs.declared.config.Config.{Config}
use Rattle.jr_word.specs.declared.handle.RefKind.{RefKind}
use Rattle.jr_word.specs.declared.fault.Fault.{Fault}
use Rattle.jr_word.specs.declared.fault.Fault.TheVariants.{RowFull, Barred}
use Rattle.jr_model.specs.declared.event.Act.{Act}
use Rattle.jr_model.specs.declared.event.Act.TheVariants.{Gate, Probe}
use Rattle.jr_model.specs.declared.event.GateAct.TheVariants.{Enter, Knock, Leave, Withdraw}
use Rattle.jr_model.specs.State.{Handle}
use Rattle.jr_model.specs.History.{History, state, PassView}
use Rattle.jr_model.specs.Frames.{Frames}
use Rattle.jr_model.specs.Windows.{IsBehind, IsLastSeen}
use Rattle.jr_model.specs.Refusals.{RowWasFull}
use Rattle.jr_model.specs.Calls.{Call, Ran}
use Rattle.jr_model.specs.Checks.{Word}
use Rattle.jr_model.specs.Programs.{AnswerKind, handed_one}
use Rattle.jr_model.specs.CallPrograms.{new_reference}
use Rattle.jr_model.specs.AllCalls.{CallOf, enters, has_own_stay, means}

-- the call is its stay:
-- it begins right behind its own Enter, or its own Knock where it is barred, and ends with its own Leave or Withdraw
abbrev pub IsItsStay : {A : Type 0} → PassView → PassView → Call A → Type 0
IsItsStay {A} old new call = (f g : Frames) (answer : Result A Fault) (r : Ran old new f g call answer)
    → ((answer ≡ Err Barred) × IsBehind old (Gate Knock) r.begun × IsLastSeen new (Gate Withdraw))
    ⊎ (IsBehind old (Gate Enter) r.begun × IsLastSeen new (Gate Leave))

-- each call of an env that has a stay of its own
abbrev pub CallsAreTheirStays : Config → ℕ → ℕ → PassView → PassView → Type 0
CallsAreTheirStays c last thread old new =
    (a : AnswerKind) (x : CallOf a) → has_own_stay x ≡ true → IsItsStay old new (means c last thread (state new.seen) x)

-- what a new reference means to a thread at these moments
abbrev pub new_reference_between : PassView → PassView → RefKind → Word → Call (Option Handle)
new_reference_between old new k a =
    means old.config old.last old.thread (state new.seen) (enters (handed_one a) (new_reference k))

-- a new reference that is refused for want of an index has a probe of each among its own acts
abbrev pub EachIsProbed : Type 0
EachIsProbed = (old new : PassView) (f g : Frames) (k : RefKind) (a : Word)
    (r : Ran old new f g (new_reference_between old new k a) (Err RowFull)) (i : ℕ)
    → i < old.config.slots
    → (front rest : List Act) × (found : Bool) × (r.acts ≡ front ++ Probe i found ∷ rest)

-- a new reference is refused for want of an index within its own stay alone:
-- behind its own entry it probed each index, and before its own exit the index was occupied
abbrev pub RefusedInItsStay : Type 0
RefusedInItsStay = (old new : PassView) (f g : Frames) (k : RefKind) (a : Word)
    → Ran old new f g (new_reference_between old new k a) (Err RowFull)
    → (entered : History) × IsBehind old (Gate Enter) entered × IsLastSeen new (Gate Leave) × RowWasFull entered new
