-- What the refusals say of the room that all threads share.
use Rattle.std.specs.Prelude.{◌≡◌, ◌≢◌, ◌+◌, ◌<◌, ◌≤◌, ℕ, Bool, [], ◌∷◌, ◌++◌}
use mathlib.Core.List.{IsPrefix}
use Rattle.jr_word.specs.declared.config.Config.{Config}
use Rattle.jr_word.specs.declared.fault.Fault.{Fault}
use Rattle.jr_word.specs.declared.fault.Fault.TheVariants.{RowFull, SpaceFull, ObjectsFull, Raced, Barred, Busy, Moved}
use Rattle.jr_model.specs.declared.event.Act.{Act}
use Rattle.jr_model.specs.declared.event.Act.TheVariants.{Gate, Probe, ReserveFull, ReserveLost, ShutBusy}
use Rattle.jr_model.specs.declared.event.GateAct.TheVariants.{Knock}
use Rattle.jr_model.specs.Maps.{count_below}
use Rattle.jr_model.specs.State.{State, EachPresent, IsOccupied, NobodyCloses, is_inside}
use Rattle.jr_model.specs.Steps.{Needs}
use Rattle.jr_model.specs.History.{History, by, state, PassView}

-- at some moment between two histories, of which the first begins the second, the state met P
pub record Sometime (P : State → Type 0) (old new : History) : Type 0 where
  pub moment : History
  pub from : IsPrefix old moment
  pub to : IsPrefix moment new
  pub met : P (state moment)

-- since the first history the thread took this act, where the machine had what the act needs
pub record WasTaken (begun : History) (new : PassView) (a : Act) : Type 0 where
  pub before : History
  pub since : History
  pub taken : new.seen ≡ before ++ by new.thread a ∷ since
  pub from : IsPrefix begun before
  pub needs : Needs new.config new.last (state before) (by new.thread a)

-- the call probed the index after this moment, and the index was occupied then or later in the call
pub record WasOccupied (begun : History) (new : PassView) (i : ℕ) : Type 0 where
  pub found : Bool
  pub probed : WasTaken begun new (Probe i found)
  pub occupied : Sometime (λ s. IsOccupied new.last s i) (probed.before ++ by new.thread (Probe i found) ∷ []) new.seen

-- each index was probed in the call and occupied since, not all at one moment
abbrev pub RowWasFull : History → PassView → Type 0
RowWasFull begun new = (i : ℕ) → i < new.config.slots → WasOccupied begun new i

-- what was asked for fitted beside so many words, and these were used at a moment of the call;
-- at a later one, when the call would take its own, others were, as that act needs
pub record LostSpace (asked : ℕ) (begun : History) (new : PassView) (looked found : ℕ) : Type 0 where
  pub room : looked + asked ≤ new.config.words
  pub lost : WasTaken begun new (ReserveLost asked looked found)
  pub looked_at : Sometime (λ s. s.used ≡ looked) begun lost.before

-- the gate is open, and so many threads are within or knock
abbrev pub IsOpenWith : Config → ℕ → State → Type 0
IsOpenWith c n s = NobodyCloses s × (count_below c.threads (λ t. is_inside (s.role t)) ≡ n)

-- at one moment of the call the gate was open with one count, and at a later one with another
pub record GateHasMoved (begun : History) (new : PassView) (looked found : ℕ) : Type 0 where
  pub other : looked ≢ found
  pub looked_at : Sometime (IsOpenWith new.config looked) begun new.seen
  pub later : Sometime (IsOpenWith new.config found) looked_at.moment new.seen

-- WHAT A REFUSAL SAYS OF THE ROOM, in a call whose window begins there. Each moment is one of the call: one in its
-- window, or that of an act of its own. `At` says that such an act was taken: what it tells, the machine needed for it.
-- `For` says for how many words of space that is so. Every other refusal speaks of what was handed in, of the thread's
-- own frames or levels, or of memory; what it says of a reference the acts of its call show
module _ (For : (ℕ → Type 0) → Type 0) (At : Act → Type 0) (begun : History) (new : PassView) where
  abbrev pub Says : Fault → Type 0
  Says RowFull = RowWasFull begun new  -- each index was occupied, behind a probe of its own
  Says ObjectsFull = Sometime (EachPresent new.config) begun new.seen  -- each object number was present at one moment
  -- so many words were used, and what is asked for did not fit beside them
  Says (SpaceFull used) = For (λ asked. At (ReserveFull asked used))
  -- what is asked for fitted, and another thread was faster
  Says (Raced looked found) = For (λ asked. LostSpace asked begun new looked found)
  Says Barred = At (Gate Knock)  -- at its entry somebody collected, or had announced that it would
  Says (Busy n) = At (ShutBusy n)  -- so many others, and one at least, were in the way of its shut
  Says (Moved looked found) = GateHasMoved begun new looked found  -- the gate was open at two moments, with two counts
  Says _ = Unit {0}

-- THE GROUNDS of a refusal: what it says but at its acts, for some number of words. The acts of its call show the rest
abbrev pub Grounds : History → PassView → Fault → Type 0
Grounds begun new = Says (λ P. (asked : ℕ) × P asked) (λ a. Unit {0}) begun new

-- WHAT WAS SO in a call that began at the old moment, asks for so many words, and is refused: all that its refusal says
abbrev pub WasSo : ℕ → History → PassView → PassView → Fault → Type 0
WasSo asked begun old new = Says (λ P. P asked) (WasTaken old.seen new) begun new
