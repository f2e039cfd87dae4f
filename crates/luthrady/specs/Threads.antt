-- How threads come to a room, and leave it.
use Rattle.std.specs.Prelude.{◌≡◌, ◌==◌, ℕ, Bool, true, false, [], ◌∷◌, ◌++◌, Option, Some, None, Result, Ok, Err}
use Rattle.std.specs.Prelude.{◌<◌, ◌+◌, ◌⊎◌, length, IfErr, IfOk, IfSome}
use Rattle.std.specs.Arc.{arc_value}
use Rattle.std.specs.Global.{Box}
use Rattle.jr_word.specs.declared.fault.Fault.{Fault}
use Rattle.jr_word.specs.declared.fault.Fault.TheVariants.{InCritical, LeftInside, Memory, NotFresh}
use Rattle.jr_model.specs.declared.summary.Summary.{Summary}
use Rattle.jr_rule.specs.declared.cells.Cells.{Ghosts}
use Rattle.jr_rule.specs.declared.closing.Left.{Left}
use Rattle.jr_rule.specs.declared.over.StepsOver.{StepsOver}
use Rattle.jr_rule.specs.declared.owned_cells.OwnedCells.{OwnedCells}
use Rattle.jr_rule.specs.Passes.{Closes}
use Rattle.jr_rule.specs.Rule.{stepping_pass}
use Rattle.jr_owned.specs.Owners.{IsLeftByOwner, owner_of}
use Rattle.jr_owned.specs.Pools.{IsIdle}
use Rattle.jr_env.specs.Envs.{Does}
use Rattle.jr_env.specs.Deeds.{free_locals}
use Rattle.jr_env.specs.Collections.{FitsRoom}
use Rattle.luthrady.specs.declared.handles.EnvHandle.{EnvHandle}
use Rattle.luthrady.specs.declared.handles.RoomHandle.{RoomHandle}
use Rattle.luthrady.specs.declared.held.EnvPlace.{EnvPlace}
use Rattle.luthrady.specs.declared.held.Native.{Native}
use Rattle.luthrady.specs.declared.held.Opened.{Opened}
use Rattle.luthrady.specs.declared.held.Presence.{Presence}
use Rattle.luthrady.specs.declared.held.Presence.TheVariants.{Critical, Detached, Ready}
use Rattle.luthrady.specs.declared.reply.Reply.{Reply}
use Rattle.luthrady.specs.declared.rooms.Stood.{Stood}
use Rattle.luthrady.specs.Places.{absence, env_mark, has_attached, is_env, is_null, is_room, native_behind}
use Rattle.luthrady.specs.Replies.{reply_of, nothing_told, the_number}

-- AN ENV STANDS IN ITS PLACE, with a marker that fits its room
abbrev pub IsPlaced : Box Native → EnvPlace → Type 0
IsPlaced n a = (a.presence ≡ Ready n) × (a.mark ≡ env_mark) × FitsRoom n.value.marker n.value.env

-- the place of a room has the same envs, so many attached threads, and is released or not, as before
abbrev pub IsSamePlace : Opened → Opened → Type 0
IsSamePlace old new = (new.envs.items ≡ old.envs.items) × (new.attached ≡ old.attached)
    × (new.released ≡ old.released) × (new.mark ≡ old.mark)

-- AN ENV THAT NO THREAD HELD WAS HANDED OUT, idle, and the others stay, in their order;
-- it is E21 just where there is none, and else E16 alone; then nothing has changed
abbrev pub IsAttached : Opened → Opened → Result (Box EnvPlace) Fault → Type 0
IsAttached old new (Ok a) = (n : Box Native) × IsPlaced n a.value × IsIdle n.value.env
    × (old.envs.items ≡ new.envs.items ++ n.value.env ∷ []) × (new.attached ≡ old.attached + 1)
    × (new.released ≡ old.released) × (new.mark ≡ old.mark)
IsAttached old new (Err e) = IsSamePlace old new
    × (((e ≡ NotFresh) × (old.envs.items ≡ [])) ⊎ ((e ≡ Memory) × (0 < length old.envs.items)))

-- by the place of a room; where none stands behind the handle, it is E21, and nothing has changed
abbrev pub ByPlace : Bool → RoomHandle → RoomHandle → Result (Box EnvPlace) Fault → Type 0
ByPlace true old new answer = IsAttached old.value new.value answer
ByPlace false old new answer = (answer ≡ Err NotFresh) × (new ≡ old)

-- the number of what stands behind a pointer, which is written elsewhere
abbrev pub elsewhere : {T : Type 0} → T → ℕ
elsewhere x = 0

-- A THREAD WAS ATTACHED, or was refused, as the reply tells
abbrev pub AttachReplied : RoomHandle → RoomHandle → Reply → Type 0
AttachReplied old new reply =
    (answer : Result (Box EnvPlace) Fault) × (reply ≡ reply_of elsewhere answer) × (new.at ≡ old.at)
    × ByPlace (is_room old) old new answer

-- no env waits any more in the place of a room, and none will
abbrev pub IsLetGo : Opened → Opened → Type 0
IsLetGo old new = (new.envs.items ≡ []) × (new.released ≡ true) × (new.attached ≡ old.attached)
    × (new.mark ≡ old.mark)

-- so it is released; where no room stands behind the handle, it is E21, and nothing has changed
abbrev pub IsReleased : Bool → RoomHandle → RoomHandle → Reply → Type 0
IsReleased true old new reply = (reply ≡ reply_of nothing_told (Ok tt)) × IsLetGo old.value new.value
IsReleased false old new reply = (reply ≡ reply_of nothing_told (Err NotFresh)) × (new ≡ old)

-- THE ENVS THAT NO THREAD HELD WERE LET GO, or it was refused, as the reply tells
abbrev pub ReleaseReplied : RoomHandle → RoomHandle → Reply → Type 0
ReleaseReplied old new reply = (new.at ≡ old.at) × IsReleased (is_room old) old new reply

-- 1 where the room was closed, 0 where it was not, or the refusal
abbrev pub leaving_answer : Result (Option Summary) Fault → Result ℕ Fault
leaving_answer (Ok None) = Ok 0
leaving_answer (Ok (Some s)) = Ok 1
leaving_answer (Err e) = Err e

-- what a summary tells
abbrev pub told_summary : Summary → Stood
told_summary s = record { globals = s.globals; weaks = s.weaks; live = s.live; used = s.used }

-- what stood in the room, where it was closed
abbrev pub stood_of : Result (Option Summary) Fault → Stood → Stood
stood_of (Ok (Some s)) before = told_summary s
stood_of _ before = before

-- the room was closed by this env's thread: the summary is that of a history that goes on from what the thread had seen
abbrev pub WasClosedBy : Native → Result (Option Summary) Fault → Type 0
WasClosedBy n closed =
    IfOk closed (λ o. IfSome o (λ s. Closes (stepping_pass n.env.held.steps.cells.cells.seat.me) s))

-- so many threads were left inside, some, as the thread of these steps found at its last look;
-- and the room is as it was
abbrev pub LeavesSome : {P : Type 0} {G : Ghosts (OwnedCells 4294967295) P} → StepsOver (OwnedCells 4294967295) P G
    → Fault → Type 0
LeavesSome s e =
    (l : Left 4294967295) × (e ≡ l.fault) × IsLeftByOwner (arc_value s.cells.room) (owner_of s) l

-- of an env that is let go: where no thread is attached any more, it closes the room, and else it does not
abbrev pub EndsAs : Bool → Native → Result (Option Summary) Fault → Type 0
EndsAs true n answer = WasClosedBy n answer × IfErr answer (λ e. LeavesSome n.env.held.steps e)
EndsAs false n answer = answer ≡ Ok None

-- the env of a thread that goes lies behind the others; of a room that was released it is let go
abbrev pub ComesBack : Bool → Opened → Opened → Native → Result (Option Summary) Fault → Type 0
ComesBack false old new n answer = (new.envs.items ≡ old.envs.items ++ n.env ∷ []) × (answer ≡ Ok None)
ComesBack true old new n answer = (new.envs.items ≡ old.envs.items) × EndsAs (new.attached == 0) n answer

-- A ROOM TAKES AN ENV BACK, whose thread is attached no more
abbrev pub TakesBack : Opened → Opened → Native → Result (Option Summary) Fault → Type 0
TakesBack old new n answer = (new.attached + 1 ≡ old.attached) × (new.released ≡ old.released)
    × (new.mark ≡ old.mark) × ComesBack old.released old new n answer

-- what becomes of a thread whose env was asked to free its local references, and is this one now:
-- where it was refused it is still attached; else the room has its env
abbrev pub IsDetachedOnce : Result (Unit {0}) Fault → Box Native → Box Native → RoomHandle → RoomHandle → EnvHandle
    → EnvHandle → Result (Option Summary) Fault → Type 0
IsDetachedOnce (Err e) n m room room' old new answer = (answer ≡ Err e) × (room' ≡ room) × (native_behind new ≡ Some m)
    × (m.value.marker ≡ n.value.marker)
IsDetachedOnce (Ok u) n m room room' old new answer = (is_env new ≡ true) × (new.value.presence ≡ Detached)
    × IsIdle m.value.env × TakesBack room.value room'.value m.value answer

-- by a room that has attached threads, of a thread whose env is ready; where none is, it is E21 or E19 (`absence`),
-- and at another room E21, and nothing has changed
abbrev pub IsDetachedBy : Bool → Option (Box Native) → RoomHandle → RoomHandle → EnvHandle → EnvHandle
    → Result (Option Summary) Fault → Type 0
IsDetachedBy true (Some n) room room' old new answer = (m : Box Native) × (freed : Result (Unit {0}) Fault)
    × Does n.value.env m.value.env free_locals freed × IsDetachedOnce freed n m room room' old new answer
IsDetachedBy true None room room' old new answer = (answer ≡ Err (absence old)) × (room' ≡ room) × (new ≡ old)
IsDetachedBy false o room room' old new answer = (answer ≡ Err NotFresh) × (room' ≡ room) × (new ≡ old)

-- A THREAD WAS DETACHED, or was refused; both handles point where they did
abbrev pub WasDetached : RoomHandle → RoomHandle → EnvHandle → EnvHandle → Result (Option Summary) Fault → Type 0
WasDetached room room' old new answer = (room'.at ≡ room.at) × (new.at ≡ old.at)
    × IsDetachedBy (has_attached room) (native_behind old) room room' old new answer

-- A THREAD WAS DETACHED, or was refused, as the reply tells, and what stood, where it closed the room
abbrev pub DetachReplied : RoomHandle → RoomHandle → EnvHandle → EnvHandle → Reply → Stood → Stood → Type 0
DetachReplied room room' old new reply before after = (answer : Result (Option Summary) Fault)
    × (reply ≡ reply_of the_number (leaving_answer answer)) × (after ≡ stood_of answer before)
    × WasDetached room room' old new answer

-- of an env's place, by its mark, whose thread is attached or not: it is freed where it is not, and the handle holds
-- NULL; else it is E19, in a critical region too, and where no place stands E21, and nothing has changed
abbrev pub EnvIsFreed : Bool → Presence → EnvHandle → EnvHandle → Reply → Type 0
EnvIsFreed true Detached old new reply = (reply ≡ reply_of nothing_told (Ok tt)) × (is_null new.at ≡ true)
EnvIsFreed true (Ready n) old new reply = (reply ≡ reply_of nothing_told (Err InCritical)) × (new ≡ old)
EnvIsFreed true (Critical r) old new reply = (reply ≡ reply_of nothing_told (Err InCritical)) × (new ≡ old)
EnvIsFreed false p old new reply = (reply ≡ reply_of nothing_told (Err NotFresh)) × (new ≡ old)

-- AN ENV'S PLACE WAS FREED, or it was refused, as the reply tells
abbrev pub FreeEnvReplied : EnvHandle → EnvHandle → Reply → Type 0
FreeEnvReplied old new reply = EnvIsFreed (is_env old) old.value.presence old new reply

-- of a room with so many attached threads: it is freed where there is none, and the handle holds NULL;
-- else it is E22 with how many there are, and nothing has changed
abbrev pub UnlessAttached : Bool → RoomHandle → RoomHandle → Reply → Type 0
UnlessAttached true old new reply = (reply ≡ reply_of nothing_told (Ok tt)) × (is_null new.at ≡ true)
UnlessAttached false old new reply =
    (reply ≡ reply_of nothing_told (Err (LeftInside old.value.attached))) × (new ≡ old)

-- where no place of a room stands it is E21, and nothing has changed
abbrev pub RoomIsFreed : Bool → RoomHandle → RoomHandle → Reply → Type 0
RoomIsFreed true old new reply = UnlessAttached (old.value.attached == 0) old new reply
RoomIsFreed false old new reply = (reply ≡ reply_of nothing_told (Err NotFresh)) × (new ≡ old)

-- A ROOM'S PLACE WAS FREED, or it was refused, as the reply tells
abbrev pub FreeRoomReplied : RoomHandle → RoomHandle → Reply → Type 0
FreeRoomReplied old new reply = RoomIsFreed (is_room old) old new reply
