-- The state of the machine.
use Rattle.std.specs.Prelude.{◌≡◌, ◌≢◌, ◌⊎◌, ◌+◌, ◌<◌, ◌≤◌, ◌==◌, ◌&&◌, ◌^◌, ℕ, Bool, true, false, not}
use Rattle.std.specs.Prelude.{if◌then◌else◌, Option, Some, None, IsSome, is_some, List, length, slice_get}
use Rattle.jr_word.specs.declared.config.Config.{Config}
use Rattle.jr_word.specs.declared.handle.HandleParts.{HandleParts}
use Rattle.jr_word.specs.declared.handle.RefKind.{RefKind}
use Rattle.jr_word.specs.declared.handle.RefKind.TheVariants.{Local, Global, Weak}
use Rattle.jr_word.specs.declared.kind.Kind.{Kind}
use Rattle.jr_word.specs.declared.kind.Kind.TheVariants.{Plain, Boolean, Byte, Char, Short, Int, Long, Objects, Text}
use Rattle.jr_model.specs.declared.event.Role.{Role}
use Rattle.jr_model.specs.declared.event.Role.TheVariants.{Outside, Within, Knocking, Announcing, Collecting}
use Rattle.jr_model.specs.declared.event.Found.{Found}
use Rattle.jr_model.specs.declared.event.Found.TheVariants.{Object, Stale}
use Rattle.jr_model.specs.declared.summary.Summary.{Summary}
use Rattle.jr_model.specs.Maps.{sum_below, count_below}

-- a handle, as its four numbers
abbrev pub Handle : Type 0
Handle = HandleParts

-- both kinds are one
abbrev pub same_kind : RefKind → RefKind → Bool
same_kind Local Local = true
same_kind Global Global = true
same_kind Weak Weak = true
same_kind _ _ = false

-- both handles are one: their four numbers are
abbrev pub same_handle : Handle → Handle → Bool
same_handle g h = same_kind g.kind h.kind && (g.serial == h.serial) && (g.index == h.index) && (g.owner == h.owner)

-- an object's kind and elements
pub record Contents : Type 0 where
  pub kind : Kind
  pub words : List ℕ

-- the state of the machine
pub record State : Type 0 where
  pub role : ℕ → Role  -- where each thread stands towards the gate
  -- the global and weak references, each with its object or cleared; Stale where none stands.
  -- A reference's kind is its handle's
  pub refs : Handle → Found
  pub given : Handle → Bool  -- the handles of all references that were ever created
  pub locals : ℕ → ℕ → Option ℕ  -- the local references: the object of a thread and a place
  pub objects : ℕ → Option Contents  -- the objects that are present, by number
  pub used : ℕ  -- how many words of array space are reserved

-- the state in which a room is opened: all are outside, and nothing stands
abbrev pub opening : State
opening = record {
  role = λ t. Outside;
  refs = λ h. Stale;
  given = λ h. false;
  locals = λ t p. None;
  objects = λ o. None;
  used = 0;
}

-- an object has this number
abbrev pub IsPresent : State → ℕ → Type 0
IsPresent s o = IsSome (s.objects o)

-- every object number of the room is present
abbrev pub EachPresent : Config → State → Type 0
EachPresent c s = (o : ℕ) → 1 ≤ o → o ≤ c.objects → IsPresent s o

-- no thread collects
abbrev pub NobodyCollects : State → Type 0
NobodyCollects s = (t : ℕ) → s.role t ≢ Collecting

-- a thread of the role keeps the gate closed to entries: it collects, or has announced that it will
abbrev pub is_barring : Role → Bool
is_barring Announcing = true
is_barring Collecting = true
is_barring _ = false

-- no thread keeps the gate closed
abbrev pub NobodyCloses : State → Type 0
NobodyCloses s = (t : ℕ) → is_barring (s.role t) ≡ false

-- some thread keeps the gate closed
abbrev pub SomebodyCloses : State → Type 0
SomebodyCloses s = (t : ℕ) × (is_barring (s.role t) ≡ true)

-- the role is Outside
abbrev pub is_outside : Role → Bool
is_outside Outside = true
is_outside _ = false

-- a thread of the role has gone in, or knocks
abbrev pub is_inside : Role → Bool
is_inside Within = true
is_inside Knocking = true
is_inside _ = false

-- how many of the threads are within, knocking, announcing or collecting
abbrev pub not_outside : Config → State → ℕ
not_outside c s = count_below c.threads (λ t. not (is_outside (s.role t)))

-- so many threads other than this one are not outside
abbrev pub AreOthers : Config → State → ℕ → ℕ → Type 0
AreOthers c s t n = not_outside c s ≡ n + (if is_outside (s.role t) then 0 else 1)

-- the length of an object, 0 for none
abbrev pub length_of : Option Contents → ℕ
length_of None = 0
length_of (Some x) = length x.words

-- the lengths of the present objects, added up
abbrev pub present_words : Config → State → ℕ
present_words c s = sum_below (c.objects + 1) (λ o. length_of (s.objects o))

-- v may be an element of an object of the kind: a number of its bits, or 0 or a present object
abbrev pub IsWord : State → Kind → ℕ → Type 0
IsWord s Plain v = ⊥
IsWord s Boolean v = v < 2
IsWord s Byte v = v < 2 ^ 8
IsWord s Char v = v < 2 ^ 16
IsWord s Short v = v < 2 ^ 16
IsWord s Int v = v < 2 ^ 32
IsWord s Long v = v < 2 ^ 64
IsWord s Objects v = (v ≡ 0) ⊎ IsPresent s v
IsWord s Text v = v < 2 ^ 16

-- each of the words may
abbrev pub AreWords : State → Kind → List ℕ → Type 0
AreWords s k ws = (i v : ℕ) → slice_get ws i ≡ Some v → IsWord s k v

-- each element of a present object array is 0 or a present object
abbrev pub IsClosed : State → Type 0
IsClosed s = (o : ℕ) (x : Contents) → s.objects o ≡ Some x → x.kind ≡ Objects → AreWords s Objects x.words

-- the object is reached: from the object of a global reference, or of a local of any
-- thread, through present objects, each an element of the object array before it
pub data IsReached (s : State) : ℕ → Type 0 where
  from_global : {o : ℕ} (h : Handle) → h.kind ≡ Global → s.refs h ≡ Object o → IsPresent s o → IsReached s o
  from_local : {o : ℕ} (t p : ℕ) → s.locals t p ≡ Some o → IsPresent s o → IsReached s o
  from_element : {o : ℕ} (a i : ℕ) (x : Contents) → IsReached s a → s.objects a ≡ Some x → x.kind ≡ Objects
      → slice_get x.words i ≡ Some o → IsPresent s o → IsReached s o

-- nothing can be created at the index: a reference of it stands, or each of its serials has been given
abbrev pub IsOccupied : ℕ → State → ℕ → Type 0
IsOccupied last s i =
    ((h : Handle) × (h.index ≡ i) × (s.refs h ≢ Stale))
    ⊎ ((serial : ℕ) → serial ≤ last → (h : Handle) × (h.index ≡ i) × (h.serial ≡ serial) × (s.given h ≡ true))

-- a reference stands, be it cleared
abbrev pub is_there : Found → Bool
is_there Stale = false
is_there _ = true

-- how many references of the kind stand, cleared ones too: at all indexes, with all serials
abbrev pub references : Config → ℕ → RefKind → State → ℕ
references c last k s = sum_below c.slots (λ i.
    count_below (last + 1) (λ n. is_there (s.refs (record { kind = k; serial = n; index = i; owner = 0 }))))

-- how many references and objects stand, and how many words are used
abbrev pub summary : Config → ℕ → State → Summary
summary c last s = record {
  globals = references c last Global s;
  weaks = references c last Weak s;
  live = count_below (c.objects + 1) (λ o. is_some (s.objects o));
  used = s.used;
}

-- both states have the same references, locals, objects and used words
pub record HaveSameTables (s s' : State) : Type 0 where
  pub refs : s'.refs ≡ s.refs
  pub given : s'.given ≡ s.given
  pub locals : s'.locals ≡ s.locals
  pub objects : s'.objects ≡ s.objects
  pub used : s'.used ≡ s.used
