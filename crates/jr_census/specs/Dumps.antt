-- What a dump keeps of the state of the machine.
use Rattle.std.specs.Prelude.{◌≡◌, ◌+◌, ◌*◌, ◌<◌, ◌≤◌, ℕ, Option, Some, None, List, length, slice_get, slice_index_or}
use Rattle.jr_word.specs.declared.header.HeaderParts.{HeaderParts}
use Rattle.jr_word.specs.declared.local.LocalParts.{LocalParts}
use Rattle.jr_word.specs.declared.local.LocalParts.TheVariants as local
use Rattle.jr_word.specs.declared.slot.SlotParts.{SlotParts}
use Rattle.jr_word.specs.declared.slot.SlotParts.TheVariants as slot
use Rattle.jr_model.specs.State.{Contents, State, length_of}
use Rattle.jr_steps.specs.declared.known.Known.{Known}
use Rattle.jr_steps.specs.Knowing.{CanReopen, state_of}
use Rattle.jr_steps.specs.Says.{SaysOfSlot, local_parts}

-- EACH SLOT below n is kept, with what its parts say of the state
abbrev pub HasSlots : ℕ → ℕ → State → List SlotParts → Type 0
HasSlots n last s slots = (i : ℕ) → i < n → SaysOfSlot last s.refs s.given i (slice_index_or slots i (slot.Free 0))

-- the first n local places of a thread are kept, from a place of the notes on
abbrev pub HasPlacesOf : ℕ → ℕ → (ℕ → Option ℕ) → List LocalParts → Type 0
HasPlacesOf start n places notes =
    (p : ℕ) → p < n → local_parts (places p) ≡ slice_index_or notes (start + p) local.Free

-- EACH LOCAL PLACE below n of the first threads is kept, with the object that its reference names:
-- those of one thread behind those of the threads before it
abbrev pub HasPlaces : ℕ → ℕ → State → List LocalParts → Type 0
HasPlaces threads n s notes = (t : ℕ) → t < threads → HasPlacesOf (t * n) n (s.locals t) notes

-- an object is kept with its kind, its length, and its elements from a place of the dump's words on
pub record KeepsContents (x : Contents) (h : HeaderParts) (words : List ℕ) : Type 0 where
  pub kind : x.kind ≡ h.kind
  pub long : length x.words ≡ h.length
  pub elements : (i : ℕ) → i < h.length → slice_get x.words i ≡ Some (slice_index_or words (h.place + i) 0)

-- what is kept of a number: that no object has it, or its object
abbrev pub KeepsNumber : State → ℕ → Option HeaderParts → List ℕ → Type 0
KeepsNumber s o None words = s.objects o ≡ None
KeepsNumber s o (Some h) words = (x : Contents) × (s.objects o ≡ Some x) × KeepsContents x h words

-- EACH OF THE FIRST n NUMBERS is kept, from 1 on
abbrev pub HasObjects : ℕ → State → List (Option HeaderParts) → List ℕ → Type 0
HasObjects n s headers words = (j : ℕ) → j < n → KeepsNumber s (j + 1) (slice_index_or headers j None) words

-- the length of an object, by its header, 0 for none
abbrev pub noted_length : Option HeaderParts → ℕ
noted_length None = 0
noted_length (Some h) = h.length

-- For the crate's own functions: an object begins there
abbrev pub BeginsAt : ℕ → Option HeaderParts → Type 0
BeginsAt start None = Unit {0}
BeginsAt start (Some h) = h.place ≡ start

-- For the crate's own functions: there is room for the object from the place on, and the gate may be opened
abbrev pub HasRoom : ℕ → ℕ → ℕ → Known → Type 0
HasRoom o start room k = CanReopen k × (start + length_of ((state_of k).objects o) ≤ room)
