-- What a collection through a pointer did.
use Rattle.std.specs.Prelude.{◌≡◌, ◌==◌, if◌then◌else◌, ℕ, Option, Some, None, Result, Ok, Err}
use Rattle.std.specs.Global.{Box}
use Rattle.jr_word.specs.declared.fault.Fault.{Fault}
use Rattle.jr_weak.specs.declared.collecting.Collected.{Collected}
use Rattle.jr_weak.specs.Markers.{room_of}
use Rattle.jr_env.specs.Collections.{FitsRoom}
use Rattle.jr_env.specs.Deeds.{Deed}
use Rattle.jr_env.specs.Envs.{Does}
use Rattle.luthrady.specs.declared.collecting.Counts.{Counts}
use Rattle.luthrady.specs.declared.handles.EnvHandle.{EnvHandle}
use Rattle.luthrady.specs.declared.held.Native.{Native}
use Rattle.luthrady.specs.declared.reply.Reply.{Reply}
use Rattle.luthrady.specs.Places.{absence, native_behind}
use Rattle.luthrady.specs.Replies.{reply_of}

-- the number of tries: at least one
abbrev pub at_least_one : ℕ → ℕ
at_least_one n = if n == 0 then 1 else n

-- the env that was ready there did the deed, where its marker fits the room, as it does from the attaching on;
-- the marker stays one of a room of so many objects;
-- where none was ready, it is E21 or E19 (`absence`), and nothing has changed
abbrev pub ByMarker : {A : Type 0} → EnvHandle → EnvHandle → Option (Box Native) → Deed A → Result A Fault → Type 0
ByMarker old new None deed answer = (answer ≡ Err (absence old)) × (new ≡ old)
ByMarker old new (Some n) deed answer = (m : Box Native) × (native_behind new ≡ Some m)
    × (FitsRoom n.value.marker n.value.env → Does n.value.env m.value.env deed answer)
    × (room_of m.value.marker ≡ room_of n.value.marker)

-- THE CALL WAS MADE WITH ITS MARKER by the env behind the handle, with this answer; the handle points where it did
abbrev pub WasMadeMarking : {A : Type 0} → EnvHandle → EnvHandle → Deed A → Result A Fault → Type 0
WasMadeMarking old new deed answer = (new.at ≡ old.at) × ByMarker old new (native_behind old) deed answer

-- what is told of an answer: what the collection did; of a refusal, nothing
abbrev pub counts_of : Result Collected Fault → Counts → Counts
counts_of (Ok c) before = record { cleared = c.cleared; dropped = c.dropped; used = c.used }
counts_of (Err e) before = before

-- THE COLLECTION WAS MADE, with an answer that the reply and the counts tell
abbrev pub CountsReplied : EnvHandle → EnvHandle → Deed Collected → Reply → Counts → Counts → Type 0
CountsReplied old new deed reply before after =
    (answer : Result Collected Fault) × (reply ≡ reply_of (λ (c : Collected). 0) answer)
    × (after ≡ counts_of answer before) × WasMadeMarking old new deed answer
