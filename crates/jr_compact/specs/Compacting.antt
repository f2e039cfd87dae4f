-- What a collector has to know to move all arrays together, and what has become of them then.
use Rattle.std.specs.Prelude.{◌≡◌, ◌↔◌, ℕ, nat_eq, List, Contains}
use Rattle.std.specs.List.{IsDistinct}
use Rattle.jr_model.specs.State.{HaveSameTables, IsPresent, present_words}
use Rattle.jr_steps.specs.declared.known.Known.{Known}
use Rattle.jr_steps.specs.Knowing.{state_of, IsSettled}

-- ALL ARRAYS MAY BE MOVED TOGETHER: the list has each object that is present, once, and no other number;
-- and no move is unfinished
pub record CanCompact (present : List ℕ) (k : Known) : Type 0 where
  pub distinct : IsDistinct nat_eq present
  pub listed : (o : ℕ) → IsPresent (state_of k) o ↔ Contains present o
  pub settled : IsSettled k

-- ALL ARRAYS STAND TOGETHER: so many words are used, which is what the present objects have;
-- references, locals and objects, with their kinds and elements, are what they were; and no move is unfinished
pub record AreCompacted (used : ℕ) (k k' : Known) : Type 0 where
  pub tables : HaveSameTables (record (state_of k) { used = used }) (state_of k')
  pub sum : used ≡ present_words k'.config (state_of k')
  pub settled : IsSettled k'
