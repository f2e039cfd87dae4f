-- What a census tells, as counts over the state of the machine.
use Rattle.std.specs.Prelude.{◌≡◌, ◌+◌, ◌<◌, ◌≤◌, ◌==◌, ◌&&◌, ◌||◌, ◌^◌, ℕ, Bool, true}
use Rattle.std.specs.Prelude.{false, not, Option, Some, None, is_some, List, slice_index_or}
use Rattle.jr_word.specs.declared.config.Config.{Config}
use Rattle.jr_word.specs.declared.handle.RefKind.{RefKind}
use Rattle.jr_word.specs.declared.handle.RefKind.TheVariants.{Global, Weak}
use Rattle.jr_word.specs.declared.header.HeaderParts.{HeaderParts}
use Rattle.jr_word.specs.declared.kind.Kind.{Kind}
use Rattle.jr_word.specs.declared.kind.Kind.TheVariants.{Plain, Boolean, Byte, Char, Short, Int, Long, Objects, Text}
use Rattle.jr_word.specs.declared.local.LocalParts.{LocalParts}
use Rattle.jr_word.specs.declared.local.LocalParts.TheVariants as local
use Rattle.jr_word.specs.declared.slot.SlotParts.{SlotParts}
use Rattle.jr_word.specs.declared.slot.SlotParts.TheVariants as slot
use Rattle.jr_word.specs.Kind.{kind_code}
use Rattle.jr_model.specs.declared.event.Found.{Found}
use Rattle.jr_model.specs.declared.event.Found.TheVariants.{Cleared}
use Rattle.jr_model.specs.Maps.{sum_below, count_below}
use Rattle.jr_model.specs.State.{Handle, Contents, State, is_there, length_of, present_words}
use Rattle.jr_weak.specs.Marks.{IsExactly}
use Rattle.jr_census.specs.declared.slots.Slots.{Slots}
use Rattle.jr_census.specs.declared.objects.KindCounts.{KindCounts}
use Rattle.jr_census.specs.declared.objects.Objects.{Objects as ObjectCounts}
use Rattle.jr_census.specs.declared.words.WordCounts.{WordCounts}

-- a reference stands that is cleared
abbrev pub is_cleared : Found → Bool
is_cleared Cleared = true
is_cleared _ = false

-- how many references of the kind stand at the index so, of all serials
abbrev pub at_index : ℕ → (Found → Bool) → RefKind → (Handle → Found) → ℕ → ℕ
at_index last so kind refs i =
    count_below (last + 1) (λ n. so (refs (record { kind = kind; serial = n; index = i; owner = 0 })))

-- the reference of the last serial at the index
abbrev pub last_of : ℕ → RefKind → ℕ → Handle
last_of last kind i = record { kind = kind; serial = last; index = i; owner = 0 }

-- nothing is created at the index any more: a reference of the last serial was created there, and none of it stands
abbrev pub is_retired : ℕ → State → ℕ → Bool
is_retired last s i = (s.given (last_of last Global i) || s.given (last_of last Weak i))
    && not (is_there (s.refs (last_of last Global i)) || is_there (s.refs (last_of last Weak i)))

-- SO MANY REFERENCES STAND at the indexes below n, and so many of these indexes are retired
pub record AreSlots (n last : ℕ) (s : State) (x : Slots) : Type 0 where
  pub globals : x.globals ≡ sum_below n (at_index last is_there Global s.refs)
  pub weaks : x.weaks ≡ sum_below n (at_index last is_there Weak s.refs)
  pub cleared : x.cleared ≡ sum_below n (at_index last is_cleared Weak s.refs)
  pub retired : x.retired ≡ count_below n (is_retired last s)

-- how many of the places below n have a local reference
abbrev pub at_places : ℕ → (ℕ → Option ℕ) → ℕ
at_places n places = count_below n (λ p. is_some (places p))

-- SO MANY LOCAL REFERENCES STAND, by thread
abbrev pub AreLocals : ℕ → (ℕ → ℕ → Option ℕ) → List ℕ → Type 0
AreLocals n locals x = (t : ℕ) → slice_index_or x t 0 ≡ at_places n (locals t)

-- how many are counted of a kind
abbrev pub count_of : KindCounts → Kind → ℕ
count_of x Plain = x.plain
count_of x Boolean = x.booleans
count_of x Byte = x.bytes
count_of x Char = x.chars
count_of x Short = x.shorts
count_of x Int = x.ints
count_of x Long = x.longs
count_of x Objects = x.objects
count_of x Text = x.strings

-- an object of the kind is present
abbrev pub is_present_as : Kind → Option Contents → Bool
is_present_as kind None = false
is_present_as kind (Some x) = kind_code x.kind == kind_code kind

-- SO MANY OBJECTS ARE PRESENT with the numbers up to n, of each kind and together, and so many words they have
pub record AreObjects (n : ℕ) (objects : ℕ → Option Contents) (x : ObjectCounts) : Type 0 where
  pub kinds : (kind : Kind) → count_of x.kinds kind ≡ count_below (n + 1) (λ o. is_present_as kind (objects o))
  pub live : x.live ≡ count_below (n + 1) (λ o. is_some (objects o))
  pub words : x.words ≡ sum_below (n + 1) (λ o. length_of (objects o))

-- what is there, unless this is true
abbrev pub unless : {A : Type 0} → Bool → Option A → Option A
unless true x = None
unless false x = x

-- the objects but those that are marked
abbrev pub unmarked : List Bool → (ℕ → Option Contents) → ℕ → Option Contents
unmarked marks objects o = unless (slice_index_or marks o false) (objects o)

-- the objects that are marked
abbrev pub marked : List Bool → (ℕ → Option Contents) → ℕ → Option Contents
marked marks objects o = unless (not (slice_index_or marks o false)) (objects o)

-- SO MANY WORDS THE OBJECTS HAVE THAT ARE REACHED: those that are marked, where marked means reached;
-- they are the words that are used once all others are dropped and the top is set
abbrev pub AreReached : Config → State → ℕ → Type 0
AreReached c s n =
    (marks : List Bool) × IsExactly marks s × (n ≡ present_words c (record s { objects = marked marks s.objects }))

-- SO MANY WORDS ARE USED, so many of them no present object has, so many have the
-- objects that are reached, and so many are the others, which a collection frees
pub record AreUsedWords (c : Config) (s : State) (x : WordCounts) : Type 0 where
  pub used : x.used ≡ s.used
  pub lost : x.lost + present_words c s ≡ s.used
  pub reached : AreReached c s x.reached
  pub freed : x.freed + x.reached ≡ s.used

-- For the crate's own functions: none of the counts is more than this
pub record AreFew (n : ℕ) (x : Slots) : Type 0 where
  pub globals : x.globals ≤ n
  pub weaks : x.weaks ≤ n
  pub cleared : x.cleared ≤ n
  pub retired : x.retired ≤ n

-- For the crate's own functions: the counts with what a slot has
abbrev pub with_slot : Slots → SlotParts → Slots
with_slot x (slot.Global serial o) = record x { globals = x.globals + 1 }
with_slot x (slot.Weak serial None) = record x { weaks = x.weaks + 1; cleared = x.cleared + 1 }
with_slot x (slot.Weak serial (Some o)) = record x { weaks = x.weaks + 1 }
with_slot x (slot.Retired serial) = record x { retired = x.retired + 1 }
with_slot x (slot.Free serial) = x

-- For the crate's own functions: how many references stand at a local place, by its word
abbrev pub local_bit : LocalParts → ℕ
local_bit local.Free = 0
local_bit (local.Object o) = 1

-- For the crate's own functions: the counts with one of a kind
abbrev pub with_kind : KindCounts → Kind → KindCounts
with_kind x Plain = record x { plain = x.plain + 1 }
with_kind x Boolean = record x { booleans = x.booleans + 1 }
with_kind x Byte = record x { bytes = x.bytes + 1 }
with_kind x Char = record x { chars = x.chars + 1 }
with_kind x Short = record x { shorts = x.shorts + 1 }
with_kind x Int = record x { ints = x.ints + 1 }
with_kind x Long = record x { longs = x.longs + 1 }
with_kind x Objects = record x { objects = x.objects + 1 }
with_kind x Text = record x { strings = x.strings + 1 }

-- For the crate's own functions: the counts with what the header of a number says
abbrev pub with_object : ObjectCounts → Option HeaderParts → ObjectCounts
with_object x None = x
with_object x (Some h) = record { kinds = with_kind x.kinds h.kind; live = x.live + 1; words = x.words + h.length }

-- For the crate's own functions: the words of a header, none where there is no header
abbrev pub header_words : Option HeaderParts → ℕ
header_words None = 0
header_words (Some h) = h.length

-- For the crate's own functions: they can be counted
pub record IsRoomFor (h : Option HeaderParts) (x : ObjectCounts) : Type 0 where
  pub kinds : (kind : Kind) → count_of x.kinds kind ≤ 65535
  pub live : x.live ≤ 65535
  pub words : x.words + header_words h < 2 ^ 32

-- For the crate's own functions:
-- the words that are used, of which the present objects have so many, and those that nothing reaches so many
pub record HaveWords (present unreached : ℕ) (x : WordCounts) : Type 0 where
  pub lost : x.lost + present ≡ x.used
  pub reached : x.reached + unreached ≡ present
  pub freed : x.freed + x.reached ≡ x.used
