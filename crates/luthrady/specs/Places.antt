-- What stands behind a handle's pointer.
use Rattle.std.specs.Prelude.{◌==◌, ◌&&◌, not, ℕ, Bool, true, false, Option, Some, None}
use Rattle.std.specs.Global.{Box}
use denote.RawPtr.{Ptr, block_ptr, null_ptr}
use Rattle.jr_word.specs.declared.fault.Fault.{Fault}
use Rattle.jr_word.specs.declared.fault.Fault.TheVariants.{InCritical, NotFresh}
use Rattle.luthrady.specs.declared.handles.EnvHandle.{EnvHandle}
use Rattle.luthrady.specs.declared.handles.RoomHandle.{RoomHandle}
use Rattle.luthrady.specs.declared.held.Native.{Native}
use Rattle.luthrady.specs.declared.held.Presence.{Presence}
use Rattle.luthrady.specs.declared.held.Presence.TheVariants.{Critical, Detached, Ready}

-- what the place of a room begins with, and that of an env: eight letters in ASCII, `luthroom` and `luthrenv`
abbrev pub room_mark : ℕ
room_mark = 7815280720316690285

abbrev pub env_mark : ℕ
env_mark = 7815280720316034678

-- whether a pointer is NULL
abbrev pub is_null : Ptr → Bool
is_null (block_ptr b o) = false
is_null null_ptr = true

-- a test of what stands behind a pointer: at NULL nothing does
abbrev pub at_place : Ptr → Bool → Bool
at_place (block_ptr b o) test = test
at_place null_ptr test = false

-- whether the place of a room stands behind a pointer, by its mark
abbrev pub is_room : RoomHandle → Bool
is_room h = at_place h.at (h.value.mark == room_mark)

-- whether one with an attached thread does
abbrev pub has_attached : RoomHandle → Bool
has_attached h = at_place h.at ((h.value.mark == room_mark) && not (h.value.attached == 0))

-- whether the place of an env stands behind a pointer, by its mark
abbrev pub is_env : EnvHandle → Bool
is_env h = at_place h.at (h.value.mark == env_mark)

-- what was found, where the test was passed
abbrev pub taken : {A : Type 0} → Bool → Option A → Option A
taken true o = o
taken false o = None

-- the env that is ready for calls: none in a region, and once the thread was detached
abbrev pub ready_in : Presence → Option (Box Native)
ready_in (Ready n) = Some n
ready_in (Critical r) = None
ready_in Detached = None

-- THE ENV BEHIND A HANDLE that is ready for calls: none at NULL, in another place than an env's, in a critical region,
-- and once the thread was detached
abbrev pub native_behind : EnvHandle → Option (Box Native)
native_behind h = taken (is_env h) (ready_in h.value.presence)

-- why none is ready: E19 in a critical region, and else E21
abbrev pub absence_in : Presence → Fault
absence_in (Ready n) = NotFresh
absence_in (Critical r) = InCritical
absence_in Detached = NotFresh

-- the same, where a test of the place was passed; else it is E21
abbrev pub absence_at : Bool → Presence → Fault
absence_at true p = absence_in p
absence_at false p = NotFresh

-- WHY NO ENV BEHIND A HANDLE IS READY for calls: E19 where it is in a critical region, and else E21
abbrev pub absence : EnvHandle → Fault
absence h = absence_at (is_env h) h.value.presence
