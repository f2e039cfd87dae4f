-- What a collection through a pointer listed in memory of the caller's.
use Rattle.std.specs.Prelude.{◌≡◌, ◌⊎◌, ℕ, Bool, List, map, Option, Some, None, Result, Err, OnErr}
use Rattle.std.specs.Global.{Box}
use Rattle.jr_word.specs.declared.fault.Fault.{Fault}
use Rattle.jr_word.specs.declared.fault.Fault.TheVariants.{Memory}
use Rattle.jr_word.specs.declared.handle.Handle.{Handle as HandleWord}
use Rattle.jr_model.specs.State.{Handle}
use Rattle.jr_weak.specs.declared.collecting.Collected.{Collected}
use Rattle.jr_weak.specs.Listing.{ListsTell}
use Rattle.jr_weak.specs.Markers.{marks_of, room_of}
use Rattle.jr_env.specs.Collections.{FitsRoom}
use Rattle.jr_env.specs.Deeds.{Deed}
use Rattle.jr_env.specs.Envs.{Does}
use Rattle.luthrady.specs.declared.collecting.Counts.{Counts}
use Rattle.luthrady.specs.declared.handles.EnvHandle.{EnvHandle}
use Rattle.luthrady.specs.declared.held.Native.{Native}
use Rattle.luthrady.specs.declared.reply.Reply.{Reply}
use Rattle.luthrady.specs.Collecting.{counts_of}
use Rattle.luthrady.specs.Places.{absence, native_behind}
use Rattle.luthrady.specs.Replies.{reply_of}

-- the handle that has a word
abbrev pub as_handle : ℕ → HandleWord
as_handle w = record { 0 = w }

-- a collection that lists: what marks it leaves, and what is told of what it cleared and dropped
abbrev pub Lister : Type 1
Lister = List Bool → (List Handle → List ℕ → Type 0) → Deed Collected

-- the words of a buffer tell of the cleared references, and the numbers of another one of the dropped objects
abbrev pub WordsTell : List ℕ → List ℕ → List ℕ → List ℕ → List Handle → List ℕ → Type 0
WordsTell words numbers words' numbers' =
    ListsTell (map as_handle words) numbers (map as_handle words') numbers'

-- memory for the list was refused (E16), and nothing has changed; or the env did this with its marker, where that fits
-- the room, as it does from the attaching on
abbrev pub ListedBy : Native → Native → (List Bool → Deed Collected) → Result Collected Fault → Type 0
ListedBy n m deed answer = ((answer ≡ Err Memory) × (m ≡ n))
    ⊎ ((FitsRoom n.marker n.env → Does n.env m.env (deed (marks_of m.marker)) answer)
    × (room_of m.marker ≡ room_of n.marker))

-- by the env that was ready there; where none was, it is E21 or E19 (`absence`), and nothing has changed
abbrev pub ByLister : EnvHandle → EnvHandle → Option (Box Native) → (List Bool → Deed Collected)
    → Result Collected Fault → Type 0
ByLister old new None deed answer = (answer ≡ Err (absence old)) × (new ≡ old)
ByLister old new (Some n) deed answer =
    (m : Box Native) × (native_behind new ≡ Some m) × ListedBy n.value m.value deed answer

-- WHAT WENT WAS LISTED by the env behind the handle, with this answer; the handle points where it did
abbrev pub WasListed : Lister → EnvHandle → EnvHandle → List ℕ → List ℕ → List ℕ → List ℕ → Result Collected Fault
    → Type 0
WasListed lists old new words numbers words' numbers' answer = (new.at ≡ old.at)
    × ByLister old new (native_behind old) (λ marks. lists marks (WordsTell words numbers words' numbers')) answer

-- WHAT WENT WAS LISTED, with an answer that the reply and the counts tell; a refusal leaves the buffers
abbrev pub ListsReplied : Lister → EnvHandle → EnvHandle → Reply → List ℕ → List ℕ → List ℕ → List ℕ → Counts → Counts
    → Type 0
ListsReplied lists old new reply words numbers words' numbers' before after =
    (answer : Result Collected Fault) × (reply ≡ reply_of (λ (c : Collected). 0) answer)
    × (after ≡ counts_of answer before) × WasListed lists old new words numbers words' numbers' answer
    × OnErr answer ((words' ≡ words) × (numbers' ≡ numbers))
