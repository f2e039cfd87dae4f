-- For the crate's own functions: what a search has found.
use Rattle.std.specs.Prelude.{◌≡◌, ◌≤◌, ◌<◌, ◌+◌, ◌&&◌, ℕ, Bool, not}
use Rattle.std.specs.Prelude.{Option, Some, None, IsSome, is_some, List, length, slice_index_or, count_by}
use Rattle.jr_alive.specs.declared.dump.Dump.{Dump}
use Rattle.jr_alive.specs.declared.paths.Edge.{Edge}
use Rattle.jr_alive.specs.declared.search.Root.{Root}
use Rattle.jr_alive.specs.declared.search.Origin.{Origin}
use Rattle.jr_alive.specs.declared.search.Origin.TheVariants as origin
use Rattle.jr_alive.specs.declared.search.Entry.{Entry}
use Rattle.jr_alive.specs.Graph.{IsRoot, IsInDump, IsPath, IsEdge}

-- what was found of an object
abbrev pub entry_at : List (Option Entry) → ℕ → Option Entry
entry_at es o = slice_index_or es o None

-- the object is found
abbrev pub IsEntered : List (Option Entry) → ℕ → Type 0
IsEntered es o = IsSome (entry_at es o)

-- how many edges an object is from its root, 0 where it isn't found
abbrev pub depth_in : Option Entry → ℕ
depth_in None = 0
depth_in (Some e) = e.depth

abbrev pub depth_of : List (Option Entry) → ℕ → ℕ
depth_of es o = depth_in (entry_at es o)

-- none is farther from its root
abbrev pub AreWithin : ℕ → List (Option Entry) → Type 0
AreWithin most es = (o : ℕ) → depth_of es o ≤ most

-- the object is named from there, by as many edges: by a root, or by an element of an array that was found
abbrev pub ComesFrom : Dump → ℕ → List (Option Entry) → ℕ → ℕ → Origin → Type 0
ComesFrom d x es o depth (origin.Root r) = IsRoot d r o × IsInDump d x o × (depth ≡ 0)
ComesFrom d x es o depth (origin.Element a i) =
    (e : Entry) × (entry_at es a ≡ Some e) × IsEdge d x a i o × (depth ≡ e.depth + 1)

-- THE SEARCH STANDS: the objects that are found stand in the queue, each once, the nearer ones first
pub record IsSearching (d : Dump) (x : ℕ) (es : List (Option Entry)) (queue : List ℕ) : Type 0 where
  pub wide : length es ≡ length d.headers.items + 1
  pub counted : count_by is_some es ≡ length queue
  pub found : (i : ℕ) → i < length queue → IsEntered es (slice_index_or queue i 0)
  pub queued : (o : ℕ) → IsEntered es o → (i : ℕ) × (i < length queue) × (slice_index_or queue i 0 ≡ o)
  pub sound : (o : ℕ) (e : Entry) → entry_at es o ≡ Some e → ComesFrom d x es o e.depth e.origin
  pub sorted : (i j : ℕ) → i ≤ j → j < length queue
      → depth_of es (slice_index_or queue i 0) ≤ depth_of es (slice_index_or queue j 0)

-- what was found stays so, and more may follow
pub record Grows (es : List (Option Entry)) (queue : List ℕ) (es' : List (Option Entry)) (queue' : List ℕ)
    : Type 0 where
  pub more : length queue ≤ length queue'
  pub kept : (o : ℕ) (e : Entry) → entry_at es o ≡ Some e → entry_at es' o ≡ Some e
  pub same : (i : ℕ) → i < length queue → slice_index_or queue' i 0 ≡ slice_index_or queue i 0

-- each root's object is found, right at a root
abbrev pub HasRoots : Dump → ℕ → List (Option Entry) → Type 0
HasRoots d x es = (r : Root) (o : ℕ) → IsRoot d r o → IsInDump d x o → IsEntered es o × (depth_of es o ≤ 0)

-- each object that an array names is found, at most one edge behind the array
abbrev pub HasArrayElements : Dump → ℕ → ℕ → List (Option Entry) → Type 0
HasArrayElements d x a es = (i o : ℕ) → IsEdge d x a i o → IsEntered es o × (depth_of es o ≤ depth_of es a + 1)

-- THE SEARCH IS DONE: what is found comes from a root, and each path ends at an object that is found at no more edges
pub record IsSearched (d : Dump) (x : ℕ) (es : List (Option Entry)) : Type 0 where
  pub wide : length es ≡ length d.headers.items + 1
  pub sound : (o : ℕ) (e : Entry) → entry_at es o ≡ Some e → ComesFrom d x es o e.depth e.origin
  pub nearest : (r : Root) (a : ℕ) (edges : List Edge) (o : ℕ) → IsPath d x r a edges o
      → IsEntered es o × (depth_of es o ≤ length edges)

-- the object is found in the first search and not in the second
abbrev pub goes_with : List (Option Entry) → List (Option Entry) → ℕ → Bool
goes_with all rest o = is_some (entry_at all o) && not (is_some (entry_at rest o))
