-- What a pass holds in its stay: ranges of its own, and headers that it knows.
use Rattle.std.specs.Prelude.{◌≡◌, ◌≢◌, ◌==◌, ◌+◌, ◌<◌, ℕ, cond, length, Option, Some, None, List, [], ◌∷◌}
use Rattle.jr_word.specs.declared.config.Config.{Config}
use Rattle.jr_word.specs.declared.header.HeaderParts.{HeaderParts}
use Rattle.jr_word.specs.Header.{IsHeader}
use Rattle.jr_steps.specs.declared.known.OwnRange.{OwnRange}
use Rattle.jr_steps.specs.declared.known.KnownHeader.{KnownHeader}
use Rattle.jr_steps.specs.declared.known.Holdings.{Holdings}
use Rattle.jr_steps.specs.declared.known.Move.{Move}

-- nothing is held
abbrev pub empty : Holdings
empty = record { ranges = []; headers = []; moving = None }

-- the words of the own range at a place, none where there is no such range
abbrev pub words_at : ℕ → List OwnRange → List ℕ
words_at p [] = []
words_at p (r ∷ rs) = cond (r.place == p) r.words (words_at p rs)

-- what is known of the header of an object
abbrev pub header_in : ℕ → List KnownHeader → Option HeaderParts
header_in o [] = None
header_in o (h ∷ hs) = cond (h.object == o) h.header (header_in o hs)

-- the range at a place has these words now
abbrev pub with_range : Holdings → ℕ → List ℕ → Holdings
with_range g p ws =
    record { ranges = record { place = p; words = ws } ∷ g.ranges; headers = g.headers; moving = g.moving }

-- the header of an object is known
abbrev pub with_header : Holdings → ℕ → HeaderParts → Holdings
with_header g o h =
    record { ranges = g.ranges; headers = record { object = o; header = Some h } ∷ g.headers; moving = g.moving }

-- no header of the object is known any more
abbrev pub without_header : Holdings → ℕ → Holdings
without_header g o =
    record { ranges = g.ranges; headers = record { object = o; header = None } ∷ g.headers; moving = g.moving }

-- this move is not finished, or none is
abbrev pub with_move : Holdings → Option Move → Holdings
with_move g m = record { ranges = g.ranges; headers = g.headers; moving = m }

-- what the threads hold, once t holds g
abbrev pub hold : (ℕ → Holdings) → ℕ → Holdings → ℕ → Holdings
hold held t g u = cond (u == t) g (held u)

-- so many elements of the object were moved to the place
abbrev pub move_of : ℕ → ℕ → ℕ → Move
move_of o place done = record { object = o; place = place; done = done }

-- the move of the object to the place that is unfinished has done so many; none is begun where it has done none
abbrev pub HasDone : Option Move → ℕ → ℕ → ℕ → Type 0
HasDone None o place done = done ≡ 0
HasDone (Some m) o place done = m ≡ move_of o place done

-- no word is an element of two objects whose headers are known
abbrev pub ShareNoWord : Holdings → Type 0
ShareNoWord g = (o r : ℕ) (h k : HeaderParts) (i j : ℕ) → o ≢ r → header_in o g.headers ≡ Some h
    → header_in r g.headers ≡ Some k → i < h.length → j < k.length → h.place + i ≢ k.place + j

-- what is held lies in the space: each word of an own range, and each element of an object whose header is known
pub record InSpace (c : Config) (g : Holdings) : Type 0 where
  pub own : (p i : ℕ) → i < length (words_at p g.ranges) → p + i < c.words
  pub good : (o : ℕ) (h : HeaderParts) → header_in o g.headers ≡ Some h → IsHeader h
  pub elements : (o : ℕ) (h : HeaderParts) → header_in o g.headers ≡ Some h → (i : ℕ) → i < h.length
      → h.place + i < c.words
  pub apart : g.moving ≡ None → ShareNoWord g
