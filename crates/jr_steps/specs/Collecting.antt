-- What a collector has to know for its steps, and what they show.
use Rattle.std.specs.Prelude.{◌≡◌, ◌≢◌, ◌+◌, ◌<◌, ◌≤◌, ℕ, Some, None, length, slice_get}
use Rattle.jr_word.specs.declared.handle.RefKind.TheVariants.{Weak}
use Rattle.jr_word.specs.declared.header.HeaderParts.{HeaderParts}
use Rattle.jr_word.specs.declared.local.LocalParts.{LocalParts}
use Rattle.jr_model.specs.declared.event.Found.TheVariants.{Object}
use Rattle.jr_model.specs.State.{Handle, Contents, IsPresent, IsReached, present_words}
use Rattle.jr_steps.specs.declared.known.Known.{Known}
use Rattle.jr_steps.specs.Acts.{handle_of}
use Rattle.jr_steps.specs.Holdings.{without_header, with_header, with_move, move_of, HasDone}
use Rattle.jr_steps.specs.Says.{local_parts, element_spot}
use Rattle.jr_steps.specs.Knowing.{state_of, KnowsHeader, IsSettled}

-- A LOAD OF A LOCAL WORD shows what stands at the place
abbrev pub ShowsLocal : ℕ → ℕ → LocalParts → Known → Type 0
ShowsLocal t p l k = local_parts ((state_of k).locals t p) ≡ l

-- A LOAD OF AN ELEMENT shows it
abbrev pub ShowsElement : ℕ → ℕ → ℕ → Known → Type 0
ShowsElement o i v k = (x : Contents) × ((state_of k).objects o ≡ Some x) × (slice_get x.words i ≡ Some v)

-- the element stands where the header that is known says: an unfinished move has not done it
abbrev pub IsThere : ℕ → HeaderParts → ℕ → Known → Type 0
IsThere o h i k = KnowsHeader o h k × (i < h.length) × (element_spot k.holdings.moving o h.place i ≡ h.place + i)

-- A WEAK REFERENCE MAY BE CLEARED: it is to an object that is not reached
abbrev pub CanWipe : ℕ → ℕ → ℕ → Known → Type 0
CanWipe i serial o k = ((state_of k).refs (handle_of Weak serial i) ≡ Object o) × ¬ (IsReached (state_of k) o)

-- AN OBJECT MAY BE DROPPED: it is present, not reached, and no weak reference names it any more
pub record CanDrop (o : ℕ) (k : Known) : Type 0 where
  pub present : IsPresent (state_of k) o
  pub unreached : ¬ (IsReached (state_of k) o)
  pub unnamed : (h : Handle) → h.kind ≡ Weak → (state_of k).refs h ≢ Object o
  pub settled : IsSettled k

-- no header of it is known any more
abbrev pub ShowsDropped : ℕ → Known → Known → Type 0
ShowsDropped o k k' = k'.holdings ≡ without_header k.holdings o

-- the word at the place is of no other list: the header of each other object with elements is known, and says so
abbrev pub IsFree : ℕ → ℕ → Known → Type 0
IsFree o at k = (r : ℕ) (x : Contents) → o ≢ r → (state_of k).objects r ≡ Some x → 1 ≤ length x.words
    → (h : HeaderParts) × KnowsHeader r h k × ((i : ℕ) → i < h.length → h.place + i ≢ at)

-- an array may have a word there: it lies below the top
abbrev pub IsRoom : ℕ → Known → Type 0
IsRoom at k = at < (state_of k).used

-- AN ELEMENT MAY BE MOVED: it is the next one of the object's move to the place, and its new
-- word is one of no other list, and of none of the object's elements that are still to be moved
pub record CanMove (o : ℕ) (h : HeaderParts) (place i v : ℕ) (k : Known) : Type 0 where
  pub known : KnowsHeader o h k
  pub done : HasDone k.holdings.moving o place i
  pub element : ShowsElement o i v k
  pub room : IsRoom (place + i) k
  pub later : (j : ℕ) → i < j → j < h.length → h.place + j ≢ place + i
  pub free : IsFree o (place + i) k

-- one more element is moved
abbrev pub ShowsMoved : ℕ → ℕ → ℕ → Known → Known → Type 0
ShowsMoved o place i k k' = k'.holdings ≡ with_move k.holdings (Some (move_of o place (i + 1)))

-- the header of an object at another place
abbrev pub placed : HeaderParts → ℕ → HeaderParts
placed h place = record { kind = h.kind; length = h.length; place = place }

-- A HEADER MAY BE SET: all elements are moved
pub record CanPlace (o : ℕ) (h : HeaderParts) (place : ℕ) (k : Known) : Type 0 where
  pub known : KnowsHeader o h k
  pub done : HasDone k.holdings.moving o place h.length

-- the move is finished, and the new header known
abbrev pub ShowsPlaced : ℕ → HeaderParts → ℕ → Known → Known → Type 0
ShowsPlaced o h place k k' = k'.holdings ≡ with_header (with_move k.holdings None) o (placed h place)

-- THE TOP MAY BE SET: no move is unfinished, so many words have the present
-- objects, and the known header of each that has elements says that they lie below
pub record CanSettle (used : ℕ) (k : Known) : Type 0 where
  pub settled : IsSettled k
  pub sum : used ≡ present_words k.config (state_of k)
  pub below : (r : ℕ) (x : Contents) → (state_of k).objects r ≡ Some x → 1 ≤ length x.words
      → (h : HeaderParts) × KnowsHeader r h k × (h.place + h.length ≤ used)
