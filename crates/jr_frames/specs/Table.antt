-- The local references of a thread, as its table keeps them.
use Rattle.std.specs.Prelude.{◌≡◌, ◌<◌, ◌==◌, ℕ, cond, IsTrue, Option, Some, None, List}
use Rattle.std.specs.Prelude.{[], ◌∷◌, length, slice_index, slice_index_or, slice_set}
use Rattle.jr_word.specs.declared.handle.RefKind.TheVariants.{Local}
use Rattle.jr_model.specs.declared.frames.LocalRef.{LocalRef}
use Rattle.jr_model.specs.State.{Handle}
use Rattle.jr_model.specs.Frames.{Frames, is_free, object_at, without_local, last_frame, frames_before}

-- the frames, the thread that owns them, and the last serial of a place
pub record Table : Type 0 where
  pub frames : Frames
  pub thread : ℕ
  pub last : ℕ

-- the handle of a free place that was not given yet
pub record IsNext (t : Table) (h : Handle) : Type 0 where
  pub place : h.index < length t.frames.given
  pub free : IsTrue (is_free t.last t.frames h.index)
  pub handle : h
      ≡ record { kind = Local; serial = slice_index t.frames.given h.index; index = h.index; owner = t.thread }

-- at one place alone something else stands
abbrev pub IsOnly : Frames → ℕ → Option ℕ → Frames → Type 0
IsOnly old place object new = (p : ℕ) → object_at new p ≡ cond (place == p) object (object_at old p)

-- the same table with other frames
abbrev pub with_frames : Table → Frames → Table
with_frames t f = record t { frames = f }

-- the handle of the oldest of some references
abbrev pub oldest_handle : List LocalRef → Option Handle
oldest_handle [] = None
oldest_handle (r ∷ rs) = Some r.handle

-- some references without the oldest
abbrev pub without_oldest : List LocalRef → List LocalRef
without_oldest [] = []
without_oldest (r ∷ rs) = rs

-- the frame of a number, where the base frame is 0
abbrev pub frame_at : List (List LocalRef) → ℕ → List LocalRef
frame_at frames k = slice_index_or frames k []

-- the deletion of a handle takes the oldest reference of a frame out, and no other
abbrev pub TakesOldestOf : Frames → ℕ → Handle → Type 0
TakesOldestOf f k h = (without_local f h).frames ≡ slice_set f.frames k (without_oldest (frame_at f.frames k))

-- the deletion of a handle takes the oldest reference of the last frame out, and no other
pub record TakesOldest (f : Frames) (h : Handle) : Type 0 where
  pub rest : last_frame (without_local f h).frames ≡ without_oldest (last_frame f.frames)
  pub before : frames_before (without_local f h).frames ≡ frames_before f.frames
