-- What a close notes of what was left: behind its collection it takes a dump.
use Rattle.std.specs.Prelude.{◌≡◌, ◌≢◌, ◌⊎◌, ◌≤◌, ◌<◌, ℕ, List, [], ◌∷◌, ◌++◌, Result, IfOk, IfErr}
use mathlib.Core.List.{IsPrefix}
use Rattle.jr_word.specs.declared.config.Config.{Config}
use Rattle.jr_word.specs.declared.fault.Fault.{Fault}
use Rattle.jr_word.specs.declared.fault.Fault.TheVariants.{Busy}
use Rattle.jr_model.specs.declared.event.Act.{Act}
use Rattle.jr_model.specs.declared.event.Act.TheVariants.{Gate, ShutBusy}
use Rattle.jr_model.specs.declared.event.GateAct.TheVariants.{Shut, Reopen}
use Rattle.jr_model.specs.declared.summary.Summary.{Summary}
use Rattle.jr_model.specs.CollectionCalls.{collection_acts}
use Rattle.jr_model.specs.History.{PassView, mine, state}
use Rattle.jr_model.specs.State.{Handle, State}
use Rattle.jr_steps.specs.declared.known.Known.{Known}
use Rattle.jr_steps.specs.Knowing.{Facts, Took, anything, keeps, view}
use Rattle.jr_weak.specs.Collecting.{MakesCollection}
use Rattle.jr_census.specs.Taking.{IsDumpOf, IsTold, TakesDump}
use Rattle.jr_rule.specs.Passes.{Closes}
use Rattle.jr_alive.specs.declared.dump.Dump.{Dump}
use Rattle.jr_alive.specs.Graph.{HasRoomFor, IsAlive, IsInDump}
use Rattle.jr_threads.specs.Closing.{ClosesBy, HasNoGarbage, HasSweptAll, LearnsAll, WasKeptOut}

-- THE DUMP IS THE STATE'S, by its four lists
abbrev pub IsOfState : Config → ℕ → State → Dump → Type 0
IsOfState c last s d = IsDumpOf c last s d.slots.items d.locals.items d.headers.items d.words.items

-- THIS DUMP WAS TAKEN
abbrev pub TakesThis : {S : Type 0} → (S → Facts) → S → S → Dump → Type 0
TakesThis facts old new d = TakesDump facts old new d.slots.items d.locals.items d.headers.items d.words.items

-- all acts of a thread that collects, and then takes a dump
abbrev pub listing_acts : List Handle → List ℕ → ℕ → List Act
listing_acts cleared dropped used = collection_acts cleared dropped used ++ (Gate Shut ∷ Gate Reopen ∷ [])

-- THE DUMP TELLS WHAT WAS LEFT, in a state of a room of these sizes: it is the state's, and each object that it has
-- is kept by a reference that it has
pub record TellsLeft (c : Config) (last : ℕ) (s : State) (d : Dump) : Type 0 where
  pub room : HasRoomFor c d
  pub is : IsOfState c last s d
  pub kept : (o : ℕ) → IsInDump d 0 o → IsAlive d 0 o

-- A DUMP WAS TAKEN between two moments: the thread shut the gate and opened it, and did nothing else, and the
-- dump is of the state at that shut
pub record TookDump (old new : PassView) (d : Dump) : Type 0 where
  pub room : HasRoomFor old.config d
  pub told : IsTold old new (λ c last s. IsOfState c last s d)

module _ {S : Type 0} (facts : S → Facts) where
  -- IT COLLECTED, AND THEN TOOK THIS DUMP
  pub record CollectsAndDumps (old new : S) (d : Dump) : Type 0 where
    pub between : S
    pub cleared : ℕ
    pub dropped : ℕ
    pub used : ℕ
    pub collects : MakesCollection facts old between cleared dropped used
    pub room : HasRoomFor (facts between).stands.config d
    pub dumps : TakesThis facts between new d

  -- IT TOOK NO DUMP, with this refusal: so many threads were not outside at the shut of the collection, or at that of
  -- the dump, behind the collection
  pub record TookNoDump (old new : S) (e : Fault) : Type 0 where
    pub between : S
    pub behind : (between ≡ old)
        ⊎ ((cleared : ℕ) × (dropped : ℕ) × (used : ℕ) × MakesCollection facts old between cleared dropped used)
    pub count : ℕ
    pub is : e ≡ Busy count
    pub some : 1 ≤ count
    pub took : Took facts between new (ShutBusy count ∷ []) anything keeps

-- For the crate's own functions: the thread learned what these have seen, collected, and took a dump; or it was kept
-- out at one of the two shuts
pub record LearnsAndDumps (k k' : Known) (others : List Known) (r : Result Dump Fault) : Type 0 where
  pub learned : Known
  pub learns : LearnsAll k learned others
  pub done : IfOk r (λ d. (swept : Known) × HasSweptAll (view learned) (view swept)
      × TookDump (view swept) (view k') d)
  pub kept_out : IfErr r (λ e. (j : Known) × (j.thread ≡ learned.thread) × IsPrefix learned.seen j.seen
      × WasKeptOut j k')

-- A ROOM IS CLOSED WITH ALL THESE PASSES, once the first had collected and taken this dump, which tells what was left
pub record ClosesListing (k : Known) (ks : List Known) (s : Summary) (d : Dump) : Type 0 where
  pub closes : ClosesBy listing_acts k ks s
  pub left : TellsLeft closes.swept.config closes.swept.last (state closes.closes.ends.whole) d

-- A ROOM IS CLOSED BY ONE PASS that had collected, and then taken this dump. Where no other thread did anything since
-- the collection, nothing is left to collect at the end, and the dump tells what was left there
pub record ClosesListed (k : Known) (s : Summary) (d : Dump) : Type 0 where
  pub swept : Known
  pub collects : HasSweptAll (view k) (view swept)
  pub listed : Known
  pub lists : TookDump (view swept) (view listed) d
  pub closes : Closes listed s
  pub left : ((t : ℕ) → t < swept.config.threads → t ≢ swept.thread
      → mine closes.ends.whole t ≡ mine swept.seen t) → HasNoGarbage swept.config (state closes.ends.whole)
      × TellsLeft swept.config swept.last (state closes.ends.whole) d
