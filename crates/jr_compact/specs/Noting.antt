-- For the crate's own functions: which objects were noted, and how far they were brought down.
use Rattle.std.specs.Prelude.{◌≡◌, ◌≢◌, ◌≤◌, ◌==◌, ℕ, nat_eq, cond, Option, Some, None, List, map, length, Contains}
use Rattle.std.specs.List.{All, IsDistinct, sum_by}
use Rattle.jr_word.specs.declared.header.HeaderParts.{HeaderParts}
use Rattle.jr_model.specs.State.{Contents, IsPresent, present_words}
use Rattle.jr_steps.specs.declared.known.Known.{Known}
use Rattle.jr_steps.specs.Collecting.{placed}
use Rattle.jr_steps.specs.Holdings.{header_in}
use Rattle.jr_steps.specs.Knowing.{state_of, KnowsHeader, IsSettled}
use Rattle.jr_compact.specs.declared.placed.PlacedObject.{PlacedObject}

-- an object with the header that was found, if it has elements
abbrev pub placed_of : ℕ → Option HeaderParts → Option PlacedObject
placed_of o None = None
placed_of o (Some h) = cond (h.length == 0) None (Some (record { object = o; header = h }))

-- the numbers of the objects that were noted
abbrev pub numbers_of : List PlacedObject → List ℕ
numbers_of entries = map (λ (e : PlacedObject). e.object) entries

-- the lengths of the objects that were noted, added up
abbrev pub noted_words : List PlacedObject → ℕ
noted_words entries = sum_by (λ (e : PlacedObject). e.header.length) entries

-- the object is present, it has elements, and its header is known
pub record IsNoted (k : Known) (e : PlacedObject) : Type 0 where
  pub present : IsPresent (state_of k) e.object
  pub known : KnowsHeader e.object e.header k
  pub long : 1 ≤ e.header.length

-- EACH PRESENT OBJECT WITH ELEMENTS IS NOTED, once, and no other; and no move is unfinished
pub record AreNoted (entries : List PlacedObject) (k : Known) : Type 0 where
  pub settled : IsSettled k
  pub each : All (IsNoted k) entries
  pub distinct : IsDistinct nat_eq (numbers_of entries)
  pub complete : (o : ℕ) (x : Contents) → (state_of k).objects o ≡ Some x → 1 ≤ length x.words
      → Contains (numbers_of entries) o
  pub sum : noted_words entries ≡ present_words k.config (state_of k)

-- the object stands at the place, and of the others is known what was
pub record StandsAt (o : ℕ) (h : HeaderParts) (place : ℕ) (k k' : Known) : Type 0 where
  pub settled : IsSettled k'
  pub known : KnowsHeader o (placed h place) k'
  pub others : (r : ℕ) → o ≢ r → header_in r k'.holdings.headers ≡ header_in r k.holdings.headers
