-- A whole pop, one reference after the other.
use Rattle.std.specs.Prelude.{◌≡◌, Ok, Some, List, [], ◌∷◌, ◌++◌, suc, length}
use Rattle.jr_model.specs.declared.event.Act.{Act}
use Rattle.jr_model.specs.declared.event.Act.TheVariants.{LocalDrop}
use Rattle.jr_model.specs.State.{Handle}
use Rattle.jr_model.specs.Frames.{Frames, drop_all, last_frame, frames_before, popped, without_local}
use Rattle.jr_model.specs.Parts.{take_frame}
use Rattle.jr_frames.specs.Table.{oldest_handle, TakesOldest}

-- A PART OF A POP:
-- these acts took the oldest references out of the last frame, one after the other, and nothing else is changed
pub record IsPopping (f : Frames) (acts : List Act) (now : Frames) : Type 0 where
  pub taken : drop_all (last_frame f.frames) ≡ acts ++ drop_all (last_frame now.frames)
  pub before : frames_before now.frames ≡ frames_before f.frames
  pub depth : length now.frames ≡ length f.frames
  pub given : now.given ≡ f.given

-- a pop begins with no act
abbrev pub PopBegins : Type 0
PopBegins = (f : Frames) → IsPopping f [] f

-- it goes on by the deletion of the oldest reference that is left, of which there is then one fewer
abbrev pub PopGoesOn : Type 0
PopGoesOn = (f now : Frames) (acts : List Act) (h : Handle) → IsPopping f acts now
    → oldest_handle (last_frame now.frames) ≡ Some h → TakesOldest now h
    → IsPopping f (acts ++ LocalDrop h.index ∷ []) (without_local now h)
    × (length (last_frame now.frames) ≡ suc (length (last_frame (without_local now h).frames)))

-- and where none is left, its acts are those of the machine's
-- pop, whose frames are left once the empty frame is taken away
abbrev pub PopEnds : Type 0
PopEnds = (f now : Frames) (acts : List Act) → IsPopping f acts now → last_frame now.frames ≡ []
    → take_frame f acts (Ok tt) (popped now)
