-- What references of a dump lead to.
use Rattle.std.specs.Prelude.{◌≡◌, ◌≤◌, ◌<◌, ◌+◌, ◌-◌, ◌*◌, ◌==◌, ◌||◌, ℕ, if◌then◌else◌}
use Rattle.std.specs.Prelude.{Option, Some, None, IsSome, List, [], ◌∷◌, length, slice_index_or, vec_len}
use Rattle.jr_word.specs.declared.config.Config.{Config}
use Rattle.jr_word.specs.declared.header.HeaderParts.{HeaderParts}
use Rattle.jr_word.specs.declared.kind.Kind.TheVariants.{Objects}
use Rattle.jr_word.specs.declared.local.LocalParts.TheVariants as local
use Rattle.jr_word.specs.declared.slot.SlotParts.TheVariants as slot
use Rattle.jr_alive.specs.declared.dump.Dump.{Dump}
use Rattle.jr_alive.specs.declared.paths.Edge.{Edge}
use Rattle.jr_alive.specs.declared.search.Root.{Root}
use Rattle.jr_alive.specs.declared.search.Root.TheVariants.{Global, Local}

-- room for the notes of a room of these sizes
pub record HasRoomFor (c : Config) (d : Dump) : Type 0 where
  pub slots : vec_len d.slots ≡ c.slots
  pub places : d.places ≡ c.locals
  pub locals : vec_len d.locals ≡ c.threads * c.locals
  pub headers : vec_len d.headers ≡ c.objects
  pub words : vec_len d.words ≡ c.words

-- the header of the object of a number, from 1 on, once the object x is taken out: x = 0 takes none out
abbrev pub noted_header : Dump → ℕ → ℕ → Option HeaderParts
noted_header d x o = if (o == 0) || (o == x) then None else slice_index_or d.headers.items (o - 1) None

-- the dump has the object, and it isn't the one that is taken out
abbrev pub IsInDump : Dump → ℕ → ℕ → Type 0
IsInDump d x o = IsSome (noted_header d x o)

-- the word of an element
abbrev pub noted_word : Dump → HeaderParts → ℕ → ℕ
noted_word d h i = slice_index_or d.words.items (h.place + i) 0

-- AN ELEMENT NAMES AN OBJECT: that of the object array a at the index i names o
pub record IsEdge (d : Dump) (x a i o : ℕ) : Type 0 where
  pub header : HeaderParts
  pub array : noted_header d x a ≡ Some header
  pub kind : header.kind ≡ Objects
  pub inside : i < header.length
  pub word : noted_word d header i ≡ o
  pub named : IsInDump d x o

-- A ROOT NAMES AN OBJECT: a global reference of a slot, or the local reference of a thread's place.
-- A weak one is no root
abbrev pub IsRoot : Dump → Root → ℕ → Type 0
IsRoot d (Global i serial) o = slice_index_or d.slots.items i (slot.Free 0) ≡ slot.Global serial o
IsRoot d (Local t p) o =
    (p < d.places) × (slice_index_or d.locals.items (t * d.places + p) local.Free ≡ local.Object o)

-- the edges lead from an object to another, each by the element of its index in the object before it
abbrev pub Lead : Dump → ℕ → ℕ → List Edge → ℕ → Type 0
Lead d x a [] o = a ≡ o
Lead d x a (s ∷ edges) o = IsEdge d x a s.index s.object × Lead d x s.object edges o

-- A PATH FROM A ROOT TO AN OBJECT: the root names the first, and the edges lead on from it
pub record IsPath (d : Dump) (x : ℕ) (r : Root) (a : ℕ) (edges : List Edge) (o : ℕ) : Type 0 where
  pub root : IsRoot d r a
  pub there : IsInDump d x a
  pub lead : Lead d x a edges o

-- no path to the object has fewer edges
abbrev pub IsShortest : Dump → ℕ → List Edge → ℕ → Type 0
IsShortest d x edges o = (r : Root) (a : ℕ) (others : List Edge)
    → IsPath d x r a others o → length edges ≤ length others

-- THE OBJECT IS ALIVE, reached from a root, once x is taken out
abbrev pub IsAlive : Dump → ℕ → ℕ → Type 0
IsAlive d x o = (r : Root) × (a : ℕ) × (edges : List Edge) × IsPath d x r a edges o
