-- What is told of a word, a thread and a room, written where the caller has room for it.
use Rattle.std.specs.Prelude.{◌≡◌, ℕ, Option, Some, None, Result, Ok, Err}
use Rattle.std.specs.Global.{Box}
use Rattle.jr_word.specs.declared.fault.Fault.{Fault}
use Rattle.jr_word.specs.declared.kind.Kind.{Kind}
use Rattle.jr_word.specs.Handle.{reference_code}
use Rattle.jr_word.specs.Kind.{kind_code}
use Rattle.jr_frames.specs.declared.counting.LocalCounts.{LocalCounts}
use Rattle.jr_frames.specs.declared.explaining.Explanation.{Explanation}
use Rattle.jr_frames.specs.declared.explaining.Explanation.TheVariants as explained
use Rattle.jr_frames.specs.Counted.{AreCounted}
use Rattle.jr_env.specs.Deeds.{Deed}
use Rattle.luthrady.specs.declared.handles.EnvHandle.{EnvHandle}
use Rattle.luthrady.specs.declared.held.Native.{Native}
use Rattle.luthrady.specs.declared.reply.Reply.{Reply}
use Rattle.luthrady.specs.declared.telling.Explained.{Explained}
use Rattle.luthrady.specs.declared.telling.Locals.{Locals}
use Rattle.luthrady.specs.Calls.{WasMade}
use Rattle.luthrady.specs.Places.{absence, native_behind}
use Rattle.luthrady.specs.Replies.{reply_of}
use Rattle.luthrady.specs.Threads.{elsewhere}

-- what is written of an answer: what it tells; of a refusal, nothing
abbrev pub told_into : {A T : Type 0} → (A → T) → Result A Fault → T → T
told_into tells (Ok x) before = tells x
told_into tells (Err e) before = before

-- THE CALL WAS MADE, with an answer that the reply and what is written tell
abbrev pub TellsInto : {A T : Type 0} → (A → T) → EnvHandle → EnvHandle → Deed A → Reply → T → T → Type 0
TellsInto {A} tells old new deed reply before after = (answer : Result A Fault)
    × (reply ≡ reply_of elsewhere answer) × (after ≡ told_into tells answer before) × WasMade old new deed answer

-- the number of what a word is
abbrev pub explanation_number : Explanation → ℕ
explanation_number explained.Null = 1
explanation_number explained.Malformed = 2
explanation_number explained.Outside = 3
explanation_number explained.Foreign = 4
explanation_number (explained.Standing kind object) = 5
explanation_number explained.OtherKind = 6
explanation_number explained.Gone = 7
explanation_number explained.NotGiven = 8

-- the number of the reference that stands there, 0 where none does
abbrev pub reference_or_none : Explanation → ℕ
reference_or_none (explained.Standing kind object) = reference_code kind
reference_or_none _ = 0

-- the number of a kind, 0 for none
abbrev pub kind_or_none : Option Kind → ℕ
kind_or_none (Some kind) = kind_code kind
kind_or_none None = 0

-- the number of the kind of the object to which a reference stands there, 0 where none does or it is cleared
abbrev pub object_or_none : Explanation → ℕ
object_or_none (explained.Standing kind object) = kind_or_none object
object_or_none _ = 0

-- WHAT A WORD IS, in numbers
abbrev pub explained_of : Explanation → Explained
explained_of e =
    record { explanation = explanation_number e; reference = reference_or_none e; kind = object_or_none e }

-- how many local references there are, in numbers
abbrev pub told_locals : LocalCounts → Locals
told_locals x = record { frames = x.frames; standing = x.standing; free = x.free; given = x.given }

-- they were counted by the env that is ready there; where none is, it is refused for this
abbrev pub CountsLocals : Fault → Option (Box Native) → Result LocalCounts Fault → Type 0
CountsLocals why (Some n) (Ok x) = AreCounted n.value.env.held.frames x
CountsLocals why (Some n) (Err e) = ⊥
CountsLocals why None answer = answer ≡ Err why

-- so they are by the env behind a handle, or it is E21 or E19 (`absence`), and nothing has changed
abbrev pub TellsLocals : EnvHandle → EnvHandle → Result LocalCounts Fault → Type 0
TellsLocals old new answer = (new ≡ old) × CountsLocals (absence old) (native_behind old) answer

-- THE LOCAL REFERENCES WERE COUNTED, as the reply and what is written tell
abbrev pub LocalsReplied : EnvHandle → EnvHandle → Reply → Locals → Locals → Type 0
LocalsReplied old new reply before after = (answer : Result LocalCounts Fault)
    × (reply ≡ reply_of elsewhere answer) × (after ≡ told_into told_locals answer before) × TellsLocals old new answer
