-- A collection as a whole: what it clears and drops, and what it keeps.
use Rattle.std.specs.Prelude.{◌≡◌, ℕ, Some, None, List, [], ◌∷◌, ◌++◌, map, nat_eq}
use Rattle.std.specs.List.{AllByRecursion, Contains, IsDistinct}
use mathlib.Core.List.{IsPrefix}
use Rattle.jr_word.specs.declared.config.Config.{Config}
use Rattle.jr_word.specs.declared.handle.RefKind.TheVariants.{Weak}
use Rattle.jr_model.specs.declared.event.Found.TheVariants.{Object}
use Rattle.jr_model.specs.declared.event.Act.{Act}
use Rattle.jr_model.specs.declared.event.Act.TheVariants.{Gate, ShutBusy, Clear, Drop, Settle, Meet}
use Rattle.jr_model.specs.declared.event.GateAct.TheVariants.{Announce, Shut, Reopen}
use Rattle.jr_model.specs.State.{Handle, same_handle, Contents, State, IsPresent, IsReached, present_words}
use Rattle.jr_model.specs.History.{History, by, state, mine, PassView, Did}

-- a weak reference that is not cleared, to an object that is not reached
abbrev pub IsToClear : State → Handle → Type 0
IsToClear s h = (h.kind ≡ Weak) × (o : ℕ) × (s.refs h ≡ Object o) × ¬ (IsReached s o)

-- a present object that is not reached
abbrev pub IsToDrop : State → ℕ → Type 0
IsToDrop s o = IsPresent s o × ¬ (IsReached s o)

-- nothing that is to be cleared or dropped in s is left out
pub record IsWhole (s : State) (cleared : List Handle) (dropped : List ℕ) : Type 0 where
  pub clears : (h : Handle) → IsToClear s h → Contains cleared h
  pub drops : (o : ℕ) → IsToDrop s o → Contains dropped o

-- exactly what is to be cleared and dropped in s, each once
pub record IsExact (s : State) (cleared : List Handle) (dropped : List ℕ) : Type 0 where
  pub whole : IsWhole s cleared dropped
  pub clears_only : AllByRecursion (IsToClear s) cleared
  pub clears_once : IsDistinct same_handle cleared
  pub drops_only : AllByRecursion (IsToDrop s) dropped
  pub drops_once : IsDistinct nat_eq dropped

-- from s to s' what is reached keeps its kind and elements, no other object
-- is present any more, and so many words are used as the present objects have
pub record KeepsReached (c : Config) (s s' : State) (used : ℕ) : Type 0 where
  pub objects : (o : ℕ) (x : Contents) → IsReached s o → s.objects o ≡ Some x → s'.objects o ≡ Some x
  pub gone : (o : ℕ) → ¬ (IsReached s o) → s'.objects o ≡ None
  pub used_is : s'.used ≡ used
  pub words_are : present_words c s' ≡ used

-- what a collection does between its shut and its reopening
abbrev pub sweeping_acts : List Handle → List ℕ → ℕ → List Act
sweeping_acts cleared dropped used = map Clear cleared ++ map Drop dropped ++ Settle used ∷ []

-- all that it does
abbrev pub collection_acts : List Handle → List ℕ → ℕ → List Act
collection_acts cleared dropped used = Gate Shut ∷ sweeping_acts cleared dropped used ++ Gate Reopen ∷ []

-- where a collection lies in what a pass has seen since a moment
pub record CollectionIn (old new : PassView) (cleared : List Handle) (dropped : List ℕ) (used : ℕ) : Type 0 where
  pub before : History
  pub inside : History
  pub rest : History
  pub from : IsPrefix old.seen before
  pub parts : new.seen ≡ before ++ by old.thread (Gate Shut) ∷ inside ++ by old.thread (Gate Reopen) ∷ rest
  pub own : mine inside old.thread ≡ sweeping_acts cleared dropped used

-- A COLLECTION between two moments: the thread did nothing else, and left nothing out of the state at its shut
pub record Collects (old new : PassView) (cleared : List Handle) (dropped : List ℕ) (used : ℕ) : Type 0 where
  pub did : Did old new (collection_acts cleared dropped used)
  pub place : CollectionIn old new cleared dropped used
  pub whole : IsWhole (state place.before) cleared dropped

-- what comes before the shut of a collection that was announced:
-- the look, the announcement, and the shuts that were refused, with these counts
abbrev pub announcing_acts : List ℕ → List Act
announcing_acts refused = Meet ∷ Gate Announce ∷ map ShutBusy refused
