-- The local references of a thread, in frames.
use Rattle.std.specs.Prelude.{◌≡◌, ◌+◌, ◌<◌, ◌≤◌, ◌==◌, ◌&&◌, ℕ, Bool, false, not, cond, nat_le, IsTrue, Option, Some}
use Rattle.std.specs.Prelude.{None, IsSome, List, [], ◌∷◌, ◌++◌, map, length, slice_index, slice_set, replicate}
use Rattle.std.specs.List.{filter, list_any, AllByRecursion}
use Rattle.jr_word.specs.declared.handle.RefKind.TheVariants.{Local}
use Rattle.jr_model.specs.declared.event.Act.{Act}
use Rattle.jr_model.specs.declared.event.Act.TheVariants.{LocalPut, LocalDrop}
use Rattle.jr_model.specs.declared.frames.LocalRef.{LocalRef}
use Rattle.jr_model.specs.declared.frames.TheConstants.{FRAMES}
use Rattle.jr_model.specs.Maps.{count_below}
use Rattle.jr_model.specs.State.{Handle, same_handle, State}
use Rattle.jr_model.specs.History.{History, state, mine}

-- the frames of a thread
pub record Frames : Type 0 where
  pub frames : List (List LocalRef)  -- the oldest first, and in each the oldest reference first
  pub given : List ℕ  -- how many handles each place has given, those of serials 0 upward

-- the references of some frames
abbrev pub joined : List (List LocalRef) → List LocalRef
joined [] = []
joined (x ∷ xs) = x ++ joined xs

-- the references of all frames
abbrev pub all_refs : Frames → List LocalRef
all_refs f = joined f.frames

-- the base frame alone, and no place has given a handle
abbrev pub fresh_frames : ℕ → Frames
fresh_frames locals = record { frames = [] ∷ []; given = replicate locals 0 }

-- the object of the first reference that passes
abbrev pub object_where : (LocalRef → Bool) → List LocalRef → Option ℕ
object_where p [] = None
object_where p (r ∷ rs) = cond (p r) (Some r.object) (object_where p rs)

-- the object of a handle that stands
abbrev pub object_of : Frames → Handle → Option ℕ
object_of f h = object_where (λ r. same_handle r.handle h) (all_refs f)

-- the object at a place
abbrev pub object_at : Frames → ℕ → Option ℕ
object_at f p = object_where (λ r. r.handle.index == p) (all_refs f)

-- one of the references is at the place
abbrev pub is_held : List LocalRef → ℕ → Bool
is_held rs p = list_any (λ r. r.handle.index == p) rs

-- the place holds no reference and is not retired: it has not given its last handle yet
abbrev pub is_free : ℕ → Frames → ℕ → Bool
is_free last f p = not (is_held (all_refs f) p) && nat_le (slice_index f.given p) last

-- how many places are free
abbrev pub free_places : ℕ → Frames → ℕ
free_places last f = count_below (length f.given) (is_free last f)

-- one more frame, which is empty
abbrev pub pushed : Frames → Frames
pushed f = record f { frames = f.frames ++ [] ∷ [] }

-- r at the end of the last frame
abbrev pub with_last : List (List LocalRef) → LocalRef → List (List LocalRef)
with_last [] r = []
with_last (x ∷ []) r = (x ++ r ∷ []) ∷ []
with_last (x ∷ y ∷ xs) r = x ∷ with_last (y ∷ xs) r

-- a reference goes to the last frame, with the next handle of a free place
pub record IsAdded (last thread : ℕ) (old : Frames) (r : LocalRef) (new : Frames) : Type 0 where
  pub place : r.handle.index < length old.given
  pub free : IsTrue (is_free last old r.handle.index)
  pub handle : r.handle
      ≡ record { kind = Local; serial = slice_index old.given r.handle.index; index = r.handle.index; owner = thread }
  pub new_is : new
      ≡ record { frames = with_last old.frames r; given = slice_set old.given r.handle.index (r.handle.serial + 1) }

-- without a handle, whichever frame has it
abbrev pub without_local : Frames → Handle → Frames
without_local f h = record f { frames = map (filter (λ r. not (same_handle r.handle h))) f.frames }

-- the references of the last frame
abbrev pub last_frame : List (List LocalRef) → List LocalRef
last_frame [] = []
last_frame (x ∷ []) = x
last_frame (x ∷ y ∷ xs) = last_frame (y ∷ xs)

-- the frames before the last
abbrev pub frames_before : List (List LocalRef) → List (List LocalRef)
frames_before [] = []
frames_before (x ∷ []) = []
frames_before (x ∷ y ∷ xs) = x ∷ frames_before (y ∷ xs)

-- without the last frame
abbrev pub popped : Frames → Frames
popped f = record f { frames = frames_before f.frames }

-- no reference, and the base frame alone
abbrev pub freed : Frames → Frames
freed f = record f { frames = [] ∷ [] }

-- the locals of the thread are the places and objects of all its frames
abbrev pub AreTheLocals : ℕ → Frames → State → Type 0
AreTheLocals thread f s = (p : ℕ) → s.locals thread p ≡ object_at f p

-- how many local references the acts stored at the place
abbrev pub stored_at : ℕ → List Act → ℕ
stored_at p [] = 0
stored_at p (LocalPut q o ∷ acts) = cond (q == p) 1 0 + stored_at p acts
stored_at p (_ ∷ acts) = stored_at p acts

-- THE FRAMES AGREE WITH WHAT HAPPENED: their references are the thread's locals, and each
-- place has given as many handles as the thread ever stored local references there
pub record Agree (thread : ℕ) (f : Frames) (es : History) : Type 0 where
  pub locals : AreTheLocals thread f (state es)
  pub given : (p : ℕ) → slice_index f.given p ≡ stored_at p (mine es thread)

-- no two of the references are at one place
abbrev pub HaveOwnPlaces : List LocalRef → Type 0
HaveOwnPlaces [] = Unit {0}
HaveOwnPlaces (r ∷ rs) = (is_held rs r.handle.index ≡ false) × HaveOwnPlaces rs

-- its serial is the last that its place has given
abbrev pub IsNewest : Frames → LocalRef → Type 0
IsNewest f r = slice_index f.given r.handle.index ≡ r.handle.serial + 1

-- frames as a thread may have them:
-- one at least and no more than there may be, one reference a place at most, and each with the last handle of its place
pub record AreSound (f : Frames) : Type 0 where
  pub some_frame : 1 ≤ length f.frames
  pub few_frames : length f.frames ≤ FRAMES
  pub apart : HaveOwnPlaces (all_refs f)
  pub newest : AllByRecursion (IsNewest f) (all_refs f)

-- the places of these references are left empty, in order
abbrev pub drop_all : List LocalRef → List Act
drop_all rs = map (λ r. LocalDrop r.handle.index) rs

-- what a thread may do with its frames, and by which acts
pub data IsMove (last thread : ℕ) (f : Frames) : List Act → Frames → Type 0 where
  pushes : length f.frames < FRAMES → IsMove last thread f [] (pushed f)
  adds : {g : Frames} (r : LocalRef) → IsAdded last thread f r g
      → IsMove last thread f (LocalPut r.handle.index r.object ∷ []) g
  deletes : (h : Handle) → IsSome (object_of f h) → IsMove last thread f (LocalDrop h.index ∷ []) (without_local f h)
  pops : 2 ≤ length f.frames → IsMove last thread f (drop_all (last_frame f.frames)) (popped f)
  frees : IsMove last thread f (drop_all (all_refs f)) (freed f)

-- moves lead from f to g
pub data LeadsTo (last thread : ℕ) (f : Frames) : Frames → Type 0 where
  stays : LeadsTo last thread f f
  goes_on : {g h : Frames} {acts : List Act} → LeadsTo last thread f g → IsMove last thread g acts h
      → LeadsTo last thread f h
