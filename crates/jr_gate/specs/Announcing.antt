-- An announcement that the gate will be shut, and why there is none.
use Rattle.std.specs.Prelude.{◌≡◌, ◌≢◌, ◌≤◌, ◌⊎◌, ℕ, [], ◌∷◌}
use Rattle.jr_word.specs.declared.fault.Fault.{Fault}
use Rattle.jr_word.specs.declared.fault.Fault.TheVariants.{Busy, Moved}
use Rattle.jr_model.specs.declared.event.Act.TheVariants.{Gate, ShutBusy, Meet}
use Rattle.jr_model.specs.declared.event.GateAct.TheVariants.{Announce}
use Rattle.jr_model.specs.State.{SomebodyCloses}
use Rattle.jr_model.specs.Refusals.{GateHasMoved}
use Rattle.jr_model.specs.Windows.{IsLastSeen}
use Rattle.jr_steps.specs.declared.known.Known.{Known}
use Rattle.jr_steps.specs.Knowing.{Facts, anything, keeps, view, state_of, Took}
use Rattle.jr_gate.specs.Acting.{ActedTo, KeepsInTwo, LetsGoInTwo}

-- two operations, of which the last announces it, and nothing is held then
abbrev pub AnnouncesInTwo : Known → Known → Type 0
AnnouncesInTwo j k = LetsGoInTwo j k × IsLastSeen (view k) (Gate Announce)

-- this, and a thread keeps the gate closed then
abbrev pub FindsClosed : (Known → Known → Type 0) → Known → Known → Type 0
FindsClosed shows j k = shows j k × SomebodyCloses (state_of k)

module _ {S : Type 0} (facts : S → Facts) (old new : S) (e : Fault) where
  -- the look found the gate closed, by another thread
  abbrev pub WasClosed : Type 0
  WasClosed = (n : ℕ) × (e ≡ Busy n) × (1 ≤ n) × Took facts old new (ShutBusy n ∷ []) anything (FindsClosed keeps)

  -- the look found it open, and another thread closed it before the exchange
  abbrev pub WasClosedBetween : Type 0
  WasClosedBetween = (n : ℕ) × (e ≡ Busy n) × (1 ≤ n)
      × ActedTo facts old new (Meet ∷ ShutBusy n ∷ []) anything (FindsClosed KeepsInTwo)

  -- both found it open, with one count and with another
  abbrev pub WasMovedBetween : Type 0
  WasMovedBetween = (looked : ℕ) × (found : ℕ) × (e ≡ Moved looked found) × (looked ≢ found)
      × ActedTo facts old new (Meet ∷ Meet ∷ []) anything (λ j k. GateHasMoved j.seen (view k) looked found
      × KeepsInTwo j k)

  -- IT WAS NOT ANNOUNCED, for one of the three
  abbrev pub WasNotAnnounced : Type 0
  WasNotAnnounced = WasClosed ⊎ (WasClosedBetween ⊎ WasMovedBetween)
