-- How all local references are freed, one after the other.
use Rattle.std.specs.Prelude.{◌≡◌, ◌≤◌, ◌+◌, ℕ, Ok, Some, List, [], ◌∷◌, ◌++◌, suc, take, length}
use Rattle.std.specs.List.{AllByRecursion}
use Rattle.jr_model.specs.declared.event.Act.{Act}
use Rattle.jr_model.specs.declared.event.Act.TheVariants.{LocalDrop}
use Rattle.jr_model.specs.State.{Handle}
use Rattle.jr_model.specs.Frames.{Frames, all_refs, drop_all, last_frame, popped, without_local}
use Rattle.jr_model.specs.References.{freeing}
use Rattle.jr_frames.specs.Table.{oldest_handle, frame_at, TakesOldestOf}

-- A PART OF A FREE: these acts took the references of the frames before number k,
-- and the oldest ones of frame k, one after the other, and nothing else is changed
pub record IsFreeing (f : Frames) (k : ℕ) (acts : List Act) (now : Frames) : Type 0 where
  pub taken : drop_all (all_refs f) ≡ acts ++ drop_all (all_refs now)
  pub before : AllByRecursion (λ rs. rs ≡ []) (take k now.frames)
  pub depth : length now.frames ≡ length f.frames
  pub given : now.given ≡ f.given

-- no reference is left, by acts that a free has
pub record IsEmptied (f : Frames) (acts : List Act) (now : Frames) : Type 0 where
  pub taken : acts ≡ drop_all (all_refs f)
  pub none : all_refs now ≡ []
  pub given : now.given ≡ f.given

-- a free begins with no act, at the base frame
abbrev pub FreeBegins : Type 0
FreeBegins = (f : Frames) → IsFreeing f 0 [] f

-- it goes on by the deletion of the oldest reference that is left in the frame, and there is then one reference fewer
abbrev pub FreeGoesOn : Type 0
FreeGoesOn = (f now : Frames) (k : ℕ) (acts : List Act) (h : Handle) → IsFreeing f k acts now
    → oldest_handle (frame_at now.frames k) ≡ Some h → TakesOldestOf now k h
    → IsFreeing f k (acts ++ LocalDrop h.index ∷ []) (without_local now h)
    × (length (all_refs now) ≡ suc (length (all_refs (without_local now h))))

-- where none is left in it, the next frame has its turn
abbrev pub FreeTurns : Type 0
FreeTurns = (f now : Frames) (k : ℕ) (acts : List Act) → IsFreeing f k acts now → frame_at now.frames k ≡ []
    → IsFreeing f (k + 1) acts now

-- after the last frame no reference is left
abbrev pub FreeEmpties : Type 0
FreeEmpties = (f now : Frames) (acts : List Act) → IsFreeing f (length f.frames) acts now → IsEmptied f acts now

-- then each frame above the base frame is empty and is taken away, and there is one frame fewer
abbrev pub EmptyIsPopped : Type 0
EmptyIsPopped = (f now : Frames) (acts : List Act) → IsEmptied f acts now → 2 ≤ length now.frames
    → (last_frame now.frames ≡ []) × (length now.frames ≡ suc (length (popped now).frames))
    × IsEmptied f acts (popped now)

-- and where the base frame alone is left, all is as the machine's free leaves it
abbrev pub FreeEnds : Type 0
FreeEnds =
    (f now : Frames) (acts : List Act) → IsEmptied f acts now → length now.frames ≡ 1 → freeing f acts (Ok tt) now
