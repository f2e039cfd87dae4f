-- What a thread that is alone may be refused for.
use Rattle.std.specs.Prelude.{ℕ, ◌<◌, List, IfErr}
use Rattle.jr_word.specs.declared.config.Config.{Config}
use Rattle.jr_word.specs.declared.fault.Fault.{Fault}
use Rattle.jr_word.specs.declared.fault.Fault.TheVariants.{RowFull, ObjectsFull, Raced, Barred, Busy, Moved}
use Rattle.jr_model.specs.State.{State, EachPresent, IsOccupied}
use Rattle.jr_model.specs.History.{PassView, state}
use Rattle.jr_gate.specs.Performing.{ThreadState}
use Rattle.jr_syntax.specs.declared.command.Command.{Command}
use Rattle.jr_scripts.specs.Explains.{Explains, nothing, then}
use Rattle.jr_scripts.specs.Places.{Place}
use Rattle.jr_scripts.specs.Posting.{Speech, ThreadWords}

-- each index of the room is occupied
abbrev pub IsRowFull : Config → ℕ → State → Type 0
IsRowFull c last s = (i : ℕ) → i < c.slots → IsOccupied last s i

-- A LONE THREAD'S REFUSALS at a moment of its pass: nobody raced it, barred it, kept it out or moved the gate,
-- and where the row or the objects are full, they are so at that very moment
abbrev pub IsAloneFault : PassView → Fault → Type 0
IsAloneFault now (Raced looked found) = ⊥
IsAloneFault now Barred = ⊥
IsAloneFault now (Busy n) = ⊥
IsAloneFault now (Moved looked found) = ⊥
IsAloneFault now RowFull = IsRowFull now.config now.last (state now.seen)
IsAloneFault now ObjectsFull = EachPresent now.config (state now.seen)
IsAloneFault now _ = Unit {0}

-- each answer of the explanation that is a refusal is a lone thread's, at the moment after its command
abbrev pub AnswersAlone : {speech : Speech} {turns first : ℕ} {old new : ThreadState} {commands : List Command}
    {text : List ℕ} {place : Place} {words : ThreadWords}
    → Explains speech turns first old commands text new place words → Type 0
AnswersAlone nothing = Unit {0}
AnswersAlone (then {new = now} c answer before did said) =
    AnswersAlone before × IfErr answer (IsAloneFault now.pass)
