-- A collection as a call, over any steps.
use Rattle.std.specs.Prelude.{◌≡◌, ◌<◌, ◌≤◌, ◌+◌, ℕ, Bool, List, [], ◌∷◌, ◌++◌, map, length}
use Rattle.jr_word.specs.declared.config.Config.{Config}
use Rattle.jr_word.specs.declared.fault.Fault.{Fault}
use Rattle.jr_word.specs.declared.fault.Fault.TheVariants.{Busy, Moved}
use Rattle.jr_model.specs.declared.event.Act.{Act}
use Rattle.jr_model.specs.declared.event.Act.TheVariants.{Gate, ShutBusy, Meet}
use Rattle.jr_model.specs.declared.event.GateAct.TheVariants.{Cancel, Shut, Reopen}
use Rattle.jr_model.specs.State.{Handle, SomebodyCloses}
use Rattle.jr_model.specs.History.{History, PassView, Did, state}
use Rattle.jr_model.specs.Refusals.{GateHasMoved}
use Rattle.jr_model.specs.Announcements.{AnnouncedUntil}
use Rattle.jr_model.specs.CollectionCalls.{IsWhole, announcing_acts, sweeping_acts, Collects}
use Rattle.jr_model.specs.Windows.{IsWindow}
use Rattle.jr_steps.specs.declared.known.Holdings.{Holdings}
use Rattle.jr_steps.specs.declared.known.Known.{Known}
use Rattle.jr_steps.specs.Holdings.{empty}
use Rattle.jr_steps.specs.Knowing.{Facts, Goes, Went, Takes, CanReopen, view}
use Rattle.jr_steps.specs.Knowing.{state_of, standing_after, anything, lets_go}
use Rattle.jr_compact.specs.Counting.{TakesWithin}
use Rattle.jr_weak.specs.Counting.{collection_steps, sweeping_steps}
use Rattle.jr_weak.specs.Marks.{IsExactly}

-- For the crate's own functions: WHAT COMES AFTER THE SHUT of a collection:
-- nothing is left out of the state then, marked is just what is reached in it, and the gate is opened at last
pub record CollectsFrom (marks : List Bool) (j k : Known) (cleared : List Handle) (dropped : List ℕ) (used : ℕ)
    : Type 0 where
  pub opening : Known
  pub swept : Did (view j) (view opening) (sweeping_acts cleared dropped used)
  pub opened : Goes opening (Gate Reopen ∷ []) k
  pub whole : IsWhole (state_of j) cleared dropped
  pub marked : IsExactly marks (state_of j)
  pub taken : TakesWithin (sweeping_steps j.config + 1) j k

-- A COLLECTION between two moments, and the marks that it leaves: marked is just what was reached at its shut
pub record CollectsMarking (marks : List Bool) (old new : PassView) (cleared : List Handle) (dropped : List ℕ)
    (used : ℕ) : Type 0 where
  pub collects : Collects old new cleared dropped used
  pub marked : IsExactly marks (state (collects.place).before)

-- all acts of a thread that shuts the gate, does these, and opens it again
abbrev pub shut_acts : List Act → List Act
shut_acts acts = Gate Shut ∷ acts ++ Gate Reopen ∷ []

-- IT WAS DONE BEHIND AN ANNOUNCEMENT: up to some moment the thread announced it and was refused with these
-- counts, and from then on it did this, with these acts while the gate was shut. From its announcement to its
-- reopening nobody entered
pub record DoesAnnounced (old new : PassView) (refused : List ℕ) (acts : List Act)
    (does : PassView → PassView → Type 0) : Type 0 where
  pub shutting : PassView
  pub announced : Did old shutting (announcing_acts refused)
  pub done : does shutting new
  pub until : AnnouncedUntil new (map ShutBusy refused ++ Gate Shut ∷ acts) Reopen

-- IT WAS DONE AFTER SOME TRIES: fewer than these were refused before, with these counts
pub record AfterTries (tries : ℕ) (does : List ℕ → Type 0) : Type 0 where
  pub refused : List ℕ
  pub few : length refused < tries
  pub done : does refused

-- A COLLECTION THAT WAS ANNOUNCED, and refused with these counts before its gate was shut
abbrev pub CollectsAnnounced : List ℕ → PassView → PassView → List Handle → List ℕ → ℕ → Type 0
CollectsAnnounced refused old new cleared dropped used =
    DoesAnnounced old new refused (sweeping_acts cleared dropped used) (λ p q. Collects p q cleared dropped used)

-- and the marks that it leaves
abbrev pub CollectsAnnouncedMarking : List Bool → List ℕ → PassView → PassView → List Handle → List ℕ → ℕ → Type 0
CollectsAnnouncedMarking marks refused old new cleared dropped used =
    DoesAnnounced old new refused (sweeping_acts cleared dropped used)
    (λ p q. CollectsMarking marks p q cleared dropped used)

-- the operations of one that was refused so often:
-- one for each act up to its shut, and from then on as many as it takes unannounced
abbrev pub announced_steps : List ℕ → ℕ → ℕ
announced_steps refused most = length (announcing_acts refused) + most

-- AN ANNOUNCED COLLECTION WAS GIVEN UP, with this refusal and by these acts, at one of four ends;
-- the pass had the one holdings and has the others
pub data WasGivenUp (tries : ℕ) (old new : PassView) (had has : Holdings) (acts : List Act) (e : Fault) : Type 0 where
  -- the look found the gate closed, by another thread
  closed_at_look : (n : ℕ) → acts ≡ ShutBusy n ∷ [] → e ≡ Busy n → 1 ≤ n → SomebodyCloses (state new.seen) → has ≡ had
      → WasGivenUp tries old new had has acts e
  -- the look found it open, and another thread closed it before the exchange
  closed_at_exchange : (n : ℕ) → acts ≡ Meet ∷ ShutBusy n ∷ [] → e ≡ Busy n → 1 ≤ n → SomebodyCloses (state new.seen)
      → has ≡ had → WasGivenUp tries old new had has acts e
  -- both found it open, with one count and with another
  moved_at_exchange : (looked found : ℕ) → acts ≡ Meet ∷ Meet ∷ [] → e ≡ Moved looked found
      → GateHasMoved old.seen new looked found → has ≡ had → WasGivenUp tries old new had has acts e
  -- it was announced, each try to shut the gate was refused, the last with this count,
  -- and the announcement was taken back. From the one to the other nobody entered
  taken_back : (refused : List ℕ) (n : ℕ) → acts ≡ announcing_acts refused ++ ShutBusy n ∷ Gate Cancel ∷ [] → e ≡ Busy n
      → 1 ≤ n → length refused + 1 ≡ tries
      → AnnouncedUntil new (map ShutBusy refused ++ ShutBusy n ∷ []) Cancel → has ≡ empty
      → WasGivenUp tries old new had has acts e

module _ {S : Type 0} (facts : S → Facts) where
  -- For the crate's own functions: THE REST OF A COLLECTION WAS MADE, once the gate was shut. It left these marks,
  -- and of what it cleared and dropped this is told
  pub record Finishes (old new : S) (marks : List Bool) (tells : List Handle → List ℕ → Type 0)
      (cleared_count dropped_count used : ℕ) : Type 0 where
    pub cleared : List Handle
    pub dropped : List ℕ
    pub clears : length cleared ≡ cleared_count
    pub drops : length dropped ≡ dropped_count
    pub told : tells cleared dropped
    pub went : Went facts old new (standing_after (facts old).stands (Gate Reopen ∷ [])) CanReopen
        (λ j k. CollectsFrom marks j k cleared dropped used) lets_go

  -- THE GATE WAS SHUT, THIS DONE, AND THE GATE OPENED AGAIN, with the first acts before and the others meanwhile: in
  -- its own window, by no more operations than the room's sizes say; and nothing is held then
  abbrev pub WentShut : S → S → List Act → List Act → (Config → ℕ) → (PassView → PassView → Type 0) → Type 0
  WentShut old new before acts most does = Went facts old new (facts old).stands anything
      (λ j k. does (view j) (view k))
      (λ j k. lets_go j k × ((begun : History) × IsWindow (view j) (view k) (before ++ shut_acts acts) begun)
      × TakesWithin (most j.config) j k)

  -- the same behind an announcement that was refused with these counts
  abbrev pub WentAnnounced : S → S → List ℕ → List Act → (Config → ℕ) → (PassView → PassView → Type 0) → Type 0
  WentAnnounced old new refused acts most does =
      WentShut old new (announcing_acts refused) acts (λ c. announced_steps refused (most c))
      (λ p q. DoesAnnounced p q refused acts does)

  -- A COLLECTION WAS MADE behind these acts, which cleared and dropped so many, and left so many words used:
  -- the model's, with nothing left out
  pub record MakesAfter (old new : S) (before : List Act) (most : Config → ℕ)
      (does : PassView → PassView → List Handle → List ℕ → ℕ → Type 0) (cleared_count dropped_count used : ℕ)
      : Type 0 where
    pub cleared : List Handle
    pub dropped : List ℕ
    pub clears : length cleared ≡ cleared_count
    pub drops : length dropped ≡ dropped_count
    pub went : WentShut old new before (sweeping_acts cleared dropped used) most (λ p q. does p q cleared dropped used)

  -- by a call that announces nothing
  abbrev pub MakesCollection : S → S → ℕ → ℕ → ℕ → Type 0
  MakesCollection old new = MakesAfter old new [] collection_steps Collects

  -- ONE THAT LEFT THESE MARKS, and of whose cleared references and dropped objects this is told
  abbrev pub MakesListing : S → S → List Bool → (List Handle → List ℕ → Type 0) → ℕ → ℕ → ℕ → Type 0
  MakesListing old new marks tells cleared dropped used =
      (z : MakesAfter old new [] collection_steps (CollectsMarking marks) cleared dropped used)
      × tells z.cleared z.dropped

  -- AN ANNOUNCED COLLECTION WAS MADE, after fewer refused shuts than there were tries
  abbrev pub MakesAnnouncedCollection : S → S → ℕ → ℕ → ℕ → ℕ → Type 0
  MakesAnnouncedCollection old new tries cleared dropped used = AfterTries tries (λ refused.
      MakesAfter old new (announcing_acts refused) (λ c. announced_steps refused (collection_steps c))
      (CollectsAnnounced refused) cleared dropped used)

  -- one that left these marks, and of whose cleared references and dropped objects this is told
  abbrev pub MakesAnnouncedListing : S → S → ℕ → List Bool → (List Handle → List ℕ → Type 0) → ℕ → ℕ → ℕ → Type 0
  MakesAnnouncedListing old new tries marks tells cleared dropped used = AfterTries tries (λ refused.
      (z : MakesAfter old new (announcing_acts refused) (λ c. announced_steps refused (collection_steps c))
      (CollectsAnnouncedMarking marks refused) cleared dropped used) × tells z.cleared z.dropped)

  -- IT WAS GIVEN UP, by one operation for each of these acts, in its own window
  pub record GivesUp (old new : S) (tries : ℕ) (e : Fault) : Type 0 where
    pub acts : List Act
    pub went : Went facts old new (facts old).stands anything (λ j k. Did (view j) (view k) acts)
        (λ j k. WasGivenUp tries (view j) (view k) j.holdings k.holdings acts e × Takes (length acts) j k
        × IsWindow (view j) (view k) acts j.seen)
