-- For the crate's own functions: what a collector has to know to move an object down.
use Rattle.std.specs.Prelude.{◌+◌, ◌<◌, ◌≤◌, ℕ}
use Rattle.jr_word.specs.declared.header.HeaderParts.{HeaderParts}
use Rattle.jr_steps.specs.declared.known.Known.{Known}
use Rattle.jr_steps.specs.Collecting.{IsFree, IsRoom}
use Rattle.jr_steps.specs.Knowing.{KnowsHeader, IsSettled}

-- AN OBJECT MAY BE MOVED DOWN to the place: its header is known, no move is unfinished,
-- the place is no higher, and the words there lie below the top and are of no other list
pub record CanSlide (o : ℕ) (h : HeaderParts) (place : ℕ) (k : Known) : Type 0 where
  pub known : KnowsHeader o h k
  pub settled : IsSettled k
  pub down : place ≤ h.place
  pub room : (i : ℕ) → i < h.length → IsRoom (place + i) k
  pub free : (i : ℕ) → i < h.length → IsFree o (place + i) k
