-- How places, and the order that they stand in, show frames.
use Rattle.std.specs.Prelude.{◌≡◌, ◌≤◌, ◌<◌, ◌+◌, ◌^◌, ℕ, if◌then◌else◌, IsTrue, map, length}
use Rattle.std.specs.List.{concat}
use Rattle.linked_lists.specs.Lists.{times}
use Rattle.jr_word.specs.declared.config.TheConstants.Config.{MOST_LOCALS}
use Rattle.jr_model.specs.declared.frames.TheConstants.{FRAMES}
use Rattle.jr_frames.specs.Table.{Table}
use Rattle.jr_frames.specs.Places.{given_of, place_at, is_taken, is_idle, ref_at}
use Rattle.jr_frames.specs.declared.frames.Frames.TheInside.{Inside as Fields}

-- the references at the places of each frame, the oldest frame first, and in each the oldest reference first
abbrev pub table : Fields → Table
table a = record {
  frames = record {
    frames = map (map (ref_at a.thread a.places.items)) a.order.lists;
    given = map given_of a.places.items;
  };
  thread = a.thread;
  last = a.last;
}

-- the order is of the places that are free, and of those that are taken, each in one frame
pub record IsTable (a : Fields) : Type 0 where
  pub few : length a.places.items ≤ MOST_LOCALS
  pub last_fits : a.last < 2 ^ 32
  pub given : (p : ℕ) → IsTrue (is_taken a.places.items p) → 1 ≤ given_of (place_at a.places.items p)
  pub within : (p : ℕ) → given_of (place_at a.places.items p) ≤ a.last + 1
  pub numbers : a.order.numbers ≡ length a.places.items
  pub some_frame : 1 ≤ length a.order.lists
  pub few_frames : length a.order.lists ≤ FRAMES
  -- a taken place is in one frame, once
  pub once : (p : ℕ) → times p (concat a.order.lists) ≡ (if is_taken a.places.items p then 1 else 0)
  -- a free place is among the free ones, once
  pub idle : (p : ℕ) → times p a.order.free ≡ (if is_idle a.last a.places.items p then 1 else 0)
  pub count : a.free ≡ length a.order.free
