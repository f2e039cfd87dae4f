-- For the crate's own functions: what the places of a frame would give once they are free.
use Rattle.std.specs.Prelude.{◌≤◌, ◌<◌, ℕ, Bool, nat_le, List, length}
use Rattle.std.specs.List.{list_any}
use Rattle.linked_lists.specs.Lists.{Lists, list_at, times}
use Rattle.jr_frames.specs.declared.place.Place.{Place}
use Rattle.jr_frames.specs.Places.{given_of, place_at}

-- there is a list of this index, of places alone, none of them twice
pub record IsFrame (order : Lists) (places k : ℕ) : Type 0 where
  pub there : k < length order.lists
  pub low : (p : ℕ) → 1 ≤ times p (list_at order.lists k) → p < places
  pub once : (p : ℕ) → times p (list_at order.lists k) ≤ 1

-- one of these places has not given its last handle
abbrev pub gives_again : ℕ → List Place → List ℕ → Bool
gives_again last places xs = list_any (λ p. nat_le (given_of (place_at places p)) last) xs
