-- What a refusal leaves as it was.
use Rattle.std.specs.Prelude.{◌≡◌, ℕ, Bool, true, false, List, Err}
use Rattle.std.specs.List.{AllByRecursion}
use Rattle.jr_word.specs.declared.config.Config.{Config}
use Rattle.jr_word.specs.declared.fault.Fault.{Fault}
use Rattle.jr_word.specs.declared.fault.Fault.TheVariants.{ObjectsFull}
use Rattle.jr_model.specs.declared.event.Act.{Act}
use Rattle.jr_model.specs.declared.event.Act.TheVariants.{Gate, ShutBusy, Look, Probe, DeleteStale}
use Rattle.jr_model.specs.declared.event.Act.TheVariants.{Reserve, ReserveFull, ReserveLost, Read, Meet}
use Rattle.jr_model.specs.declared.event.GateAct.TheVariants.{Shut, Reopen}
use Rattle.jr_model.specs.State.{State, HaveSameTables}
use Rattle.jr_model.specs.Steps.{act_after}
use Rattle.jr_model.specs.Frames.{Frames}
use Rattle.jr_model.specs.Calls.{Call}
use Rattle.jr_model.specs.Programs.{AnswerKind}
use Rattle.jr_model.specs.AllCalls.{CallOf, PartOf, means, part_means}

-- the act changes nothing but where its thread stands towards the gate
abbrev pub is_harmless : Act → Bool
is_harmless (Gate Shut) = false
is_harmless (Gate Reopen) = false
is_harmless (Gate a) = true
is_harmless (ShutBusy n) = true
is_harmless (Look h r) = true
is_harmless (Probe i b) = true
is_harmless (DeleteStale h) = true
is_harmless (ReserveFull n u) = true
is_harmless (ReserveLost n l f) = true
is_harmless (Read o i v) = true
is_harmless Meet = true
is_harmless _ = false

-- the harmless acts do change nothing else
abbrev pub HarmlessChangesNothing : Type 0
HarmlessChangesNothing = (s : State) (t : ℕ) (a : Act) → is_harmless a ≡ true → HaveSameTables s (act_after s t a)

-- an act that a call may have had before this refusal:
-- where no object number was left, space that was reserved stays so
abbrev pub may_precede : Fault → Act → Bool
may_precede ObjectsFull (Reserve n) = true
may_precede e a = is_harmless a

-- A REFUSAL CHANGES NOTHING: the frames are as they were, and the acts of the call changed nothing
pub record ChangesNothing {A : Type 0} (call : Call A) : Type 0 where
  pub frames : (old new : Frames) (acts : List Act) (e : Fault) → call old acts (Err e) new → new ≡ old
  pub acts : (old new : Frames) (acts : List Act) (e : Fault) → call old acts (Err e) new
      → AllByRecursion (λ a. may_precede e a ≡ true) acts

-- each call of an env
abbrev pub RefusalsChangeNothing : Config → ℕ → ℕ → State → Type 0
RefusalsChangeNothing c last thread s = (a : AnswerKind) (x : CallOf a) → ChangesNothing (means c last thread s x)

-- each other call
abbrev pub RefusedPartsChangeNothing : Config → ℕ → ℕ → State → Type 0
RefusedPartsChangeNothing c last thread s =
    (a : AnswerKind) (x : PartOf a) → ChangesNothing (part_means c last thread s x)
