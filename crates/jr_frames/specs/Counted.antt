-- The local references of a table, counted.
use Rattle.std.specs.Prelude.{◌≡◌, nat_le, length, slice_index}
use Rattle.jr_model.specs.Frames.{all_refs, free_places}
use Rattle.jr_model.specs.Maps.{count_below}
use Rattle.jr_frames.specs.declared.counting.LocalCounts.{LocalCounts}
use Rattle.jr_frames.specs.Table.{Table}

-- so many frames, references in all of them, free places, and places that have given a handle
pub record AreCounted (t : Table) (x : LocalCounts) : Type 0 where
  pub frames : x.frames ≡ length t.frames.frames
  pub standing : x.standing ≡ length (all_refs t.frames)
  pub free : x.free ≡ free_places t.last t.frames
  pub given : x.given ≡ count_below (length t.frames.given) (λ p. nat_le 1 (slice_index t.frames.given p))
