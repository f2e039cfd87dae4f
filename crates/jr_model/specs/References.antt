-- What calls do with references and frames, and where they make objects.
use Rattle.std.specs.Prelude.{◌≡◌, ◌==◌, ◌||◌, ℕ, not, cond, nat_lt, Option, Some, None, Ok, List, [], ◌∷◌, length}
use Rattle.jr_word.specs.declared.config.Config.{Config}
use Rattle.jr_word.specs.declared.handle.RefKind.{RefKind}
use Rattle.jr_word.specs.declared.handle.RefKind.TheVariants.{Local}
use Rattle.jr_word.specs.declared.kind.Kind.{Kind}
use Rattle.jr_word.specs.declared.fault.Fault.TheVariants.{Foreign, WrongKind, LocalsFull}
use Rattle.jr_word.specs.declared.fault.Fault.TheVariants as fault
use Rattle.jr_model.specs.declared.event.Act.TheVariants.{LocalPut}
use Rattle.jr_model.specs.State.{Handle}
use Rattle.jr_model.specs.Frames.{all_refs, drop_all, free_places, popped, freed, IsAdded}
use Rattle.jr_model.specs.Calls.{Call, done, refuse_if, ◌>>=◌, ◌>>◌}
use Rattle.jr_model.specs.Checks.{Word, is_foreign, is_malformed, is_of_kind, is_out_of_bounds}
use Rattle.jr_model.specs.Parts.{delete_at, delete_local_at, frame_to_pop}
use Rattle.jr_model.specs.Parts.{looked, publish, reserve, take_frame, type_at}

-- a deletion by the call of the kind
abbrev pub removal : Config → RefKind → Word → Call (Unit {0})
removal c k a = do
  refuse_if (is_malformed a) fault.Stale
  refuse_if (not (is_of_kind k a)) WrongKind
  refuse_if (is_out_of_bounds c a) fault.Stale
  delete_at a

-- a local reference of this thread is taken out of its frame
abbrev pub delete_local : Config → ℕ → Word → Call (Unit {0})
delete_local c thread a = do
  refuse_if (is_out_of_bounds c a) fault.Stale
  refuse_if (is_foreign thread a) Foreign
  delete_local_at a

-- a deletion of a local reference
abbrev pub local_removal : Config → ℕ → Word → Call (Unit {0})
local_removal c thread a = do
  refuse_if (is_malformed a) fault.Stale
  refuse_if (not (is_of_kind Local a)) WrongKind
  delete_local c thread a

-- the type of a reference: 0 where a call would refuse it for another, and for NULL
abbrev pub typing : Config → ℕ → Word → Call ℕ
typing c thread a = cond (is_malformed a || is_out_of_bounds c a || is_foreign thread a) (done 0) (type_at a)

-- no reference is left, and one frame
abbrev pub freeing : Call (Unit {0})
freeing old acts answer new = (acts ≡ drop_all (all_refs old)) × (answer ≡ Ok tt) × (new ≡ freed old)

module _ (c : Config) (last thread : ℕ) where
  -- the object of a reference, none for NULL and for a cleared one
  abbrev pub resolved : Word → Call (Option ℕ)
  resolved a = do
    refuse_if (is_malformed a) fault.Stale
    refuse_if (is_out_of_bounds c a) fault.Stale
    refuse_if (is_foreign thread a) Foreign
    looked a

  -- the objects of two references, each check of the first and then of the second
  abbrev pub resolved_both : Word → Word → Call (Option ℕ × Option ℕ)
  resolved_both a b = do
    refuse_if (is_malformed a) fault.Stale
    refuse_if (is_malformed b) fault.Stale
    refuse_if (is_out_of_bounds c a) fault.Stale
    refuse_if (is_out_of_bounds c b) fault.Stale
    refuse_if (is_foreign thread a) Foreign
    refuse_if (is_foreign thread b) Foreign
    x ← looked a
    y ← looked b
    done (x, y)

  -- n places are free
  abbrev pub room_for : ℕ → Call (Unit {0})
  room_for n old = refuse_if (nat_lt (free_places last old) n) LocalsFull old

  -- a new local reference to the object, for which there is a place
  abbrev pub added : ℕ → Call Handle
  added o old acts answer new = (h : Handle) × (acts ≡ LocalPut h.index o ∷ []) × (answer ≡ Ok h)
      × IsAdded last thread old (record { handle = h; object = o }) new

  -- a new local reference to the object, NULL for none
  abbrev pub new_local : Option ℕ → Call (Option Handle)
  new_local None = done None
  new_local (Some o) = do
    room_for 1
    h ← added o
    done (Some h)

  -- a new object of these words, and a local reference to it
  abbrev pub made : Kind → List ℕ → Call Handle
  made k ws = do
    room_for 1
    reserve (length ws)
    o ← publish k ws
    added o

  -- a place for the result, once those of the last frame are free
  abbrev pub room_after : Option ℕ → Call (Unit {0})
  room_after None old = done tt old
  room_after (Some o) old = refuse_if (free_places last (popped old) == 0) LocalsFull old

  -- the last frame is taken away, and its result goes to the one before it
  abbrev pub popping : Option ℕ → Call (Option Handle)
  popping x = do
    room_after x
    take_frame
    new_local x

  -- the same where there is a frame above the base frame
  abbrev pub pop_frame : Option ℕ → Call (Option Handle)
  pop_frame x = do
    frame_to_pop
    popping x
