-- EVERY CALL AS A VALUE, so that a law over all calls is one statement:
-- what each is handed, what it answers, and what it means.
use Rattle.std.specs.Prelude.{ℕ, Bool, true, false, Option, None, List}
use Rattle.jr_word.specs.declared.config.Config.{Config}
use Rattle.jr_word.specs.declared.handle.RefKind.{RefKind}
use Rattle.jr_word.specs.declared.kind.Kind.{Kind}
use Rattle.jr_model.specs.State.{Handle, State}
use Rattle.jr_model.specs.Calls.{Call, done, entered, opened, ◌>>=◌, ◌>>◌}
use Rattle.jr_model.specs.Checks.{Word}
use Rattle.jr_model.specs.Parts as parts
use Rattle.jr_model.specs.References as references
use Rattle.jr_model.specs.Programs.{AnswerKind, AnswerOf, nothing, number, object, object_kind, handle, found, counts}
use Rattle.jr_model.specs.Programs.{perhaps, several, both, Which, Program, at_object, handed_none, work_of}

-- A CALL OF AN ENV: its program with the references that it is handed, by how it stands to the gate
pub data CallOf : AnswerKind → Type 0 where
  -- in a stay of its own
  enters : {n : ℕ} {a : AnswerKind} → (Which → Word) → Program n a → CallOf a
  -- with no entry and no exit
  stays_out : {n : ℕ} {a : AnswerKind} → Program n a → CallOf a
  -- in a stay that goes on where it isn't refused: the first level of a region
  opens : {n : ℕ} {a : AnswerKind} → (Which → Word) → Program n a → CallOf a
  -- in the stay of a region whose levels have these objects: one more level
  nests : {n : ℕ} → List ℕ → (Which → Word) → Program n object → CallOf (both number (several number))
  -- in a stay of its own, and then these elements, which are kept, if they are
  keeps : {n : ℕ} → Option (List ℕ) → (Which → Word) → Program n nothing → CallOf (perhaps (several number))
  -- copied elements are given up, and nothing is done
  aborts : CallOf (perhaps (several number))

-- ANY OTHER CALL, with what it is handed: those of the gate, of slots, heap and frames
-- within a stay, at an object of a region, of copied elements, and of the room as a whole
pub data PartOf : AnswerKind → Type 0 where
  enter : PartOf nothing
  leave : PartOf nothing
  shut : PartOf nothing
  reopen : PartOf nothing
  create : ℕ → RefKind → ℕ → PartOf handle
  look : Handle → PartOf found
  delete : Handle → PartOf nothing
  reserve : ℕ → PartOf nothing
  publish : Kind → List ℕ → PartOf number
  header : ℕ → PartOf (both object_kind number)
  read_element : ℕ → ℕ → PartOf number
  write_element : ℕ → ℕ → ℕ → PartOf nothing
  resolved : Word → PartOf (perhaps number)
  new_local : Option ℕ → PartOf (perhaps handle)
  delete_local : Word → PartOf nothing
  pop_frame : Option ℕ → PartOf (perhaps handle)
  freeing : PartOf nothing
  at_level : {n : ℕ} {a : AnswerKind} → ℕ → Program n a → PartOf a
  region_release : ℕ → PartOf nothing
  elements_get : List ℕ → ℕ → PartOf number
  elements_set : List ℕ → ℕ → ℕ → PartOf (several number)
  elements_length : List ℕ → PartOf number
  collect : PartOf counts
  announce : PartOf nothing
  collect_announced : ℕ → PartOf counts
  meet : PartOf nothing

module _ (c : Config) (last thread : ℕ) (s : State) where
  -- WHAT A CALL OF AN ENV MEANS, where it leaves this state
  abbrev pub means : {a : AnswerKind} → CallOf a → Call (AnswerOf a)
  means (enters words p) = entered (work_of c last thread s words p)
  means (stays_out p) = work_of c last thread s handed_none p
  means (opens words p) = opened (work_of c last thread s words p)
  means (nests levels words p) = do
    o ← work_of c last thread s words p
    parts.nested levels o
  means (keeps elements words p) = do
    entered (work_of c last thread s words p)
    done elements
  means aborts = done None

  -- WHAT ANY OTHER CALL MEANS
  abbrev pub part_means : {a : AnswerKind} → PartOf a → Call (AnswerOf a)
  part_means enter = parts.enter
  part_means leave = parts.leave
  part_means shut = parts.shut
  part_means reopen = parts.reopen
  part_means (create slots k o) = parts.create slots k o
  part_means (look h) = parts.look h
  part_means (delete h) = parts.delete h
  part_means (reserve n) = parts.reserve n
  part_means (publish k ws) = parts.publish k ws
  part_means (header o) = parts.header s o
  part_means (read_element o i) = parts.read_element s o i
  part_means (write_element o i v) = parts.write_element s o i v
  part_means (resolved a) = references.resolved c last thread a
  part_means (new_local o) = references.new_local c last thread o
  part_means (delete_local a) = references.delete_local c thread a
  part_means (pop_frame o) = references.pop_frame c last thread o
  part_means freeing = references.freeing
  part_means (at_level o p) = at_object c last thread s o p
  part_means (region_release levels) = parts.region_release levels
  part_means (elements_get buffer i) = parts.elements_get buffer i
  part_means (elements_set buffer i v) = parts.elements_set buffer i v
  part_means (elements_length buffer) = parts.elements_length buffer
  part_means collect = parts.collect
  part_means announce = parts.announce
  part_means (collect_announced tries) = parts.collect_announced tries
  part_means meet = parts.meet

-- the call has a stay of its own, from its entry to its exit
abbrev pub has_own_stay : {a : AnswerKind} → CallOf a → Bool
has_own_stay (enters words p) = true
has_own_stay (keeps elements words p) = true
has_own_stay _ = false

-- how many words of space the call asks for: those of its program
abbrev pub words_asked : {a : AnswerKind} → CallOf a → ℕ
words_asked (enters {n} words p) = n
words_asked (stays_out {n} p) = n
words_asked (opens {n} words p) = n
words_asked (nests {n} levels words p) = n
words_asked (keeps {n} elements words p) = n
words_asked aborts = 0

-- how many any other call asks for: a reservation and a program their own, and the rest none
abbrev pub words_asked_by_part : {a : AnswerKind} → PartOf a → ℕ
words_asked_by_part (reserve n) = n
words_asked_by_part (at_level {n} o p) = n
words_asked_by_part _ = 0
