-- What a collection that an env makes did.
use Rattle.std.specs.Prelude.{◌≡◌, ◌≢◌, ◌≤◌, ◌+◌, ℕ, Ok, Err, List, length}
use Rattle.jr_word.specs.declared.config.Config.{Config}
use Rattle.jr_word.specs.declared.fault.Fault.{Fault}
use Rattle.jr_word.specs.declared.fault.Fault.TheVariants.{Busy, Moved}
use Rattle.jr_model.specs.State.{Handle}
use Rattle.jr_model.specs.History.{PassView}
use Rattle.jr_model.specs.Calls.{Call, Ran}
use Rattle.jr_model.specs.CollectionCalls.{Collects}
use Rattle.jr_model.specs.Parts as parts
use Rattle.jr_steps.specs.declared.steps.Steps.{Ghosts}
use Rattle.jr_steps.specs.Holdings.{empty}
use Rattle.jr_gate.specs.Performing.{ThreadState, IsMade}
use Rattle.jr_weak.specs.declared.collecting.Collected.{Collected}
use Rattle.jr_weak.specs.Collecting.{AfterTries, CollectsAnnounced, WasGivenUp, announced_steps}
use Rattle.jr_weak.specs.Counting.{collection_steps}
use Rattle.jr_weak.specs.Waiting.{ShutsActByAct}
use Rattle.jr_weak.specs.declared.marker.Marker.{Marker}
use Rattle.jr_weak.specs.Markers.{room_of}
use Rattle.jr_env.specs.declared.env.Env.{Env}
use Rattle.jr_env.specs.Deeds.{Deed}
use Rattle.jr_env.specs.Envs.{IsOutside}
use Rattle.jr_env.specs.OpenStays.{BehindExit}

-- A COLLECTION WAS MADE: that of this call of the machine, which clears and drops so many, all that was to be in
-- the state at its shut, and leaves so many words used. It takes no more operations than these. The frames and the
-- hint stay as they are, and afterwards the thread holds nothing
pub record HasCollected (does : PassView → PassView → List Handle → List ℕ → ℕ → Type 0) (asked : Call (ℕ × ℕ × ℕ))
    (most : ℕ) (old new : ThreadState) (c : Collected) : Type 0 where
  pub cleared : List Handle
  pub dropped : List ℕ
  pub clears : length cleared ≡ c.cleared
  pub drops : length dropped ≡ c.dropped
  pub collects : does old.pass new.pass cleared dropped c.used
  pub ran : Ran old.pass new.pass old.frames new.frames asked (Ok (c.cleared, c.dropped, c.used))
  pub taken : new.taken ≤ old.taken + most
  pub fresh : new.fresh ≡ old.fresh
  pub hint : new.hint ≡ old.hint
  pub lets_go : new.held ≡ empty

-- by a call that announces nothing
abbrev pub IsCollected : ThreadState → ThreadState → Collected → Type 0
IsCollected old = HasCollected Collects parts.collect (collection_steps old.pass.config) old

-- IT WAS REFUSED: at its one operation so many threads were not outside, at least one; and nothing has changed
pub record IsKeptOut (old new : ThreadState) (e : Fault) : Type 0 where
  pub count : ℕ
  pub busy : e ≡ Busy count
  pub some : 1 ≤ count
  pub made : IsMade 0 old new parts.collect (Err e)
  pub holds : new.held ≡ old.held

-- a collection, or its refusal
abbrev pub collection : Deed Collected
collection old (Ok c) new = IsCollected old new c
collection old (Err e) new = IsKeptOut old new e

-- AN ANNOUNCED COLLECTION WAS MADE, after fewer refused shuts than there were tries
abbrev pub IsCollectedAnnounced : ℕ → ThreadState → ThreadState → Collected → Type 0
IsCollectedAnnounced tries old new c = AfterTries tries (λ refused.
    HasCollected (CollectsAnnounced refused) (parts.collect_announced tries)
    (announced_steps refused (collection_steps old.pass.config)) old new c)

-- IT WAS GIVEN UP: it took one operation for each of its acts, which came to one of four ends
pub record IsGivenUp (tries : ℕ) (old new : ThreadState) (e : Fault) : Type 0 where
  pub made : IsMade 0 old new (parts.collect_announced tries) (Err e)
  pub ended : WasGivenUp tries old.pass new.pass old.held new.held made.ran.acts e

-- an announced collection, or its refusal
abbrev pub announced_collection : ℕ → Deed Collected
announced_collection tries old (Ok c) new = IsCollectedAnnounced tries old new c
announced_collection tries old (Err e) new = IsGivenUp tries old new e

-- why it gets no turn: so many threads kept it out, at least one, or another thread moved the count of the gate
abbrev pub IsNoTurn : Fault → Type 0
IsNoTurn (Busy n) = 1 ≤ n
IsNoTurn (Moved looked found) = looked ≢ found
IsNoTurn _ = ⊥

-- UP TO ITS SHUT AN ANNOUNCED CALL TOOK ONE OPERATION FOR EACH ACT, and no other,
-- from where the thread stood outside, or from behind the exit from a stay that a region left
abbrev pub CallShutsActByAct : {S : Type 0} {G : Ghosts S} → Env S G → Env S G → ℕ → (Config → ℕ) → Type 0
CallShutsActByAct {G = G} old new tries most =
    (IsOutside old → ShutsActByAct G.facts old.held.steps new.held.steps tries most)
    × BehindExit old.held (λ mid. ShutsActByAct G.facts mid new.held.steps tries most)

-- the marker fits the env's room: it has marks for as many objects as the room may have
abbrev pub FitsRoom : {S : Type 0} {G : Ghosts S} → Marker → Env S G → Type 0
FitsRoom {G = G} marker env = room_of marker ≡ (G.facts env.held.steps).stands.config.objects
