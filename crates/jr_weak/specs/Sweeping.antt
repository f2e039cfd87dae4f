-- What clearing and dropping show.
use Rattle.std.specs.Prelude.{◌≡◌, ◌≢◌, ℕ, Bool, Option, Some, option_map, option_to_list, List}
use Rattle.std.specs.Prelude.{length, map, nat_eq}
use Rattle.std.specs.List.{AllByRecursion, Contains, IsDistinct}
use Rattle.jr_word.specs.declared.handle.Handle.{Handle as NativeHandle}
use Rattle.jr_word.specs.declared.handle.RefKind.TheVariants.{Weak}
use Rattle.jr_model.specs.declared.event.Found.TheVariants.{Object}
use Rattle.jr_model.specs.declared.event.Act.{Act}
use Rattle.jr_model.specs.declared.event.Act.TheVariants.{Clear, Drop}
use Rattle.jr_model.specs.State.{Handle, same_handle, Contents, State, IsPresent}
use Rattle.jr_model.specs.CollectionCalls.{IsToClear, IsToDrop}
use Rattle.jr_model.specs.History.{Did}
use Rattle.jr_steps.specs.declared.known.Known.{Known}
use Rattle.jr_steps.specs.Knowing.{Facts, Went, state_of, view, CanReopen, IsSettled}
use Rattle.jr_compact.specs.Counting.{TakesWithin}
use Rattle.jr_weak.specs.Counting.{clearing_steps, dropping_steps}
use Rattle.jr_weak.specs.Listing.{native_handle}
use Rattle.jr_weak.specs.Marks.{IsMarked, IsExactly}
use Rattle.jr_weak.specs.Marking.{IsMarkedNow}

-- exactly the weak references that are to be cleared in s, each once
pub record IsExactlyToClear (s : State) (cleared : List Handle) : Type 0 where
  pub all : (h : Handle) → IsToClear s h → Contains cleared h
  pub only : AllByRecursion (IsToClear s) cleared
  pub once : IsDistinct same_handle cleared

-- exactly the objects that are to be dropped in s, each once
pub record IsExactlyToDrop (s : State) (dropped : List ℕ) : Type 0 where
  pub all : (o : ℕ) → IsToDrop s o → Contains dropped o
  pub only : AllByRecursion (IsToDrop s) dropped
  pub once : IsDistinct nat_eq dropped

-- MARKED MEANS REACHED, and no weak reference names an object that isn't
pub record AreCleared (marks : List Bool) (k : Known) : Type 0 where
  pub marked : IsMarkedNow marks k
  pub named : (h : Handle) (o : ℕ) → h.kind ≡ Weak → (state_of k).refs h ≡ Object o → IsMarked marks o

-- MARKED MEANS PRESENT, and the gate may be opened
pub record AreDropped (marks : List Bool) (k : Known) : Type 0 where
  pub present : (o : ℕ) → IsPresent (state_of k) o → IsMarked marks o
  pub marked : (o : ℕ) → IsMarked marks o → IsPresent (state_of k) o
  pub can : CanReopen k

-- For the crate's own functions:
-- marked means reached, no weak reference names an object that isn't, and no move is unfinished
pub record MayDrop (marks : List Bool) (k : Known) : Type 0 where
  pub exactly : IsExactly marks (state_of k)
  pub named : (h : Handle) (o : ℕ) → h.kind ≡ Weak → (state_of k).refs h ≡ Object o → IsMarked marks o
  pub settled : IsSettled k

-- the slot of an index was looked at, and its reference cleared if it was to be
pub record SlotIsSwept (marks : List Bool) (i : ℕ) (cleared : Option Handle) (j k : Known) : Type 0 where
  pub marked : IsMarkedNow marks k
  pub objects : (state_of k).objects ≡ (state_of j).objects
  pub others : (h : Handle) → h.index ≢ i → (state_of k).refs h ≡ (state_of j).refs h
  pub named : (h : Handle) (o : ℕ) → h.kind ≡ Weak → h.index ≡ i → (state_of k).refs h ≡ Object o → IsMarked marks o
  pub all : (h : Handle) → h.index ≡ i → IsToClear (state_of j) h → cleared ≡ Some h
  pub only : (h : Handle) → cleared ≡ Some h → IsToClear (state_of j) h × (h.index ≡ i)

-- the object of a number was looked at, and dropped if it was to be
pub record NumberIsSwept (marks : List Bool) (o : ℕ) (dropped : Option ℕ) (j k : Known) : Type 0 where
  pub may : MayDrop marks k
  pub others : (r : ℕ) → r ≢ o → (state_of k).objects r ≡ (state_of j).objects r
  pub kept : (x : Contents) → (state_of k).objects o ≡ Some x → (state_of j).objects o ≡ Some x
  pub marked : IsPresent (state_of k) o → IsMarked marks o
  pub all : IsToDrop (state_of j) o → dropped ≡ Some o
  pub only : (r : ℕ) → dropped ≡ Some r → IsToDrop (state_of j) r × (r ≡ o)

module _ {S : Type 0} (facts : S → Facts) where
  -- a place was swept, by two steps at the most: one thing was taken there, by this act, and told, or none
  pub record Sweeps {X Y : Type 0} (act : X → Act) (tell : X → Y) (met : Known → Type 0)
      (shows : Option X → Known → Known → Type 0) (old new : S) (told : Option Y) : Type 0 where
    pub taken : Option X
    pub told_is : option_map tell taken ≡ told
    pub went : Went facts old new (facts old).stands met
        (λ j k. Did (view j) (view k) (map act (option_to_list taken)) × TakesWithin 2 j k) (shows taken)

  -- a slot was swept, and something was cleared or not
  abbrev pub SweepsSlot : List Bool → ℕ → S → S → Option NativeHandle → Type 0
  SweepsSlot marks i = Sweeps Clear native_handle (IsMarkedNow marks) (SlotIsSwept marks i)

  -- a number was swept, and something was dropped or not
  abbrev pub SweepsNumber : List Bool → ℕ → S → S → Option ℕ → Type 0
  SweepsNumber marks o = Sweeps Drop (λ r. r) (MayDrop marks) (NumberIsSwept marks o)

  -- SO MANY WEAK REFERENCES WERE CLEARED, exactly those that were to be
  pub record ClearsUnreached (marks : List Bool) (old new : S) (count : ℕ) : Type 0 where
    pub cleared : List Handle
    pub counted : length cleared ≡ count
    pub went : Went facts old new (facts old).stands (IsMarkedNow marks)
        (λ j k. Did (view j) (view k) (map Clear cleared) × TakesWithin (clearing_steps j.config) j k) (λ j k.
        IsExactlyToClear (state_of j) cleared × ((state_of k).objects ≡ (state_of j).objects) × AreCleared marks k)

  -- SO MANY OBJECTS WERE DROPPED, exactly those that were to be
  pub record DropsUnreached (marks : List Bool) (old new : S) (count : ℕ) : Type 0 where
    pub dropped : List ℕ
    pub counted : length dropped ≡ count
    pub went : Went facts old new (facts old).stands (AreCleared marks) (λ j k. Did (view j) (view k) (map Drop dropped)
        × TakesWithin (dropping_steps j.config) j k) (λ j k. IsExactlyToDrop (state_of j) dropped × AreDropped marks k)
