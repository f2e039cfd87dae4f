-- What a call through a pointer did.
use Rattle.std.specs.Prelude.{◌≡◌, ℕ, Option, Some, None, Result, Err, IfErr, List}
use Rattle.std.specs.Global.{Box}
use Rattle.jr_word.specs.declared.fault.Fault.{Fault}
use Rattle.jr_env.specs.Envs.{Does}
use Rattle.jr_env.specs.Deeds.{Deed, read_answer}
use Rattle.luthrady.specs.declared.handles.EnvHandle.{EnvHandle}
use Rattle.luthrady.specs.declared.held.Native.{Native}
use Rattle.luthrady.specs.declared.reply.Reply.{Reply}
use Rattle.luthrady.specs.Places.{absence, native_behind}
use Rattle.luthrady.specs.Replies.{reply_of, nothing_told}

-- the env that was ready there did the deed, and still is, with the marker as it was;
-- where none was ready, it is E21 or E19 (`absence`), and nothing has changed
abbrev pub ByThread : {A : Type 0} → EnvHandle → EnvHandle → Option (Box Native) → Deed A → Result A Fault → Type 0
ByThread old new None deed answer = (answer ≡ Err (absence old)) × (new ≡ old)
ByThread old new (Some n) deed answer =
    (m : Box Native) × (native_behind new ≡ Some m) × Does n.value.env m.value.env deed answer
    × (m.value.marker ≡ n.value.marker)

-- THE CALL WAS MADE by the env behind the handle, with this answer; the handle points where it did
abbrev pub WasMade : {A : Type 0} → EnvHandle → EnvHandle → Deed A → Result A Fault → Type 0
WasMade old new deed answer = (new.at ≡ old.at) × ByThread old new (native_behind old) deed answer

-- THE CALL WAS MADE, with an answer that the reply tells, in numbers
abbrev pub Replied : {A : Type 0} → (A → ℕ) → EnvHandle → EnvHandle → Deed A → Reply → Type 0
Replied {A} word old new deed reply =
    (answer : Result A Fault) × (reply ≡ reply_of word answer) × WasMade old new deed answer

-- THE WORDS WERE READ, with an answer that the reply tells; those read stand in the slice, and a refusal leaves it
abbrev pub ReadReplied : EnvHandle → EnvHandle → Deed (List ℕ) → Reply → List ℕ → List ℕ → Type 0
ReadReplied old new deed reply before ws = (answer : Result (Unit {0}) Fault) × (reply ≡ reply_of nothing_told answer)
    × WasMade old new deed (read_answer answer ws) × IfErr answer (λ e. ws ≡ before)
