-- CALLS AS PROGRAMS: what a call does within its stay, as data. A program names its references, and the objects that
-- they are to, by places. So one text is read over the words of this machine, and over whatever else tells of
-- references and objects. Kinds, lengths and numbers are the same however it is read: what follows for them is a
-- function of them.
use Rattle.std.specs.Prelude.{ℕ, Bool, Option, None, Some}
use Rattle.std.specs.Prelude.{List, length, replicate}
use Rattle.jr_word.specs.declared.config.Config.{Config}
use Rattle.jr_word.specs.declared.handle.RefKind.{RefKind}
use Rattle.jr_word.specs.declared.kind.Kind.{Kind}
use Rattle.jr_model.specs.declared.event.Act.TheVariants.{Read, Write}
use Rattle.jr_model.specs.declared.event.Found.{Found}
use Rattle.jr_model.specs.State.{Handle, State}
use Rattle.jr_model.specs.Calls.{Call, act, done, for_object, some_act, unless_memory_for, ◌>>=◌, ◌>>◌}
use Rattle.jr_model.specs.Checks.{Word, Nothing, element_word, object_of_word, same_object}
use Rattle.jr_model.specs.Tests.{AreSilent, Tests, tested}
use Rattle.jr_model.specs.Parts.{created, frame_left, frame_to_pop, new_frame, not_null, read, write}
use Rattle.jr_model.specs.References.{freeing, local_removal, made, new_local, popping, removal, resolved}
use Rattle.jr_model.specs.References.{resolved_both, room_for, typing}

-- what a call answers, by a name: a law over calls of whatever answer speaks of names, and not of types
pub data AnswerKind : Type 0 where
  nothing : AnswerKind
  truth : AnswerKind
  number : AnswerKind
  object : AnswerKind
  object_kind : AnswerKind
  handle : AnswerKind
  found : AnswerKind
  counts : AnswerKind
  perhaps : AnswerKind → AnswerKind
  several : AnswerKind → AnswerKind
  both : AnswerKind → AnswerKind → AnswerKind

-- the type that the name stands for
abbrev pub AnswerOf : AnswerKind → Type 0
AnswerOf nothing = Unit {0}
AnswerOf truth = Bool
AnswerOf number = ℕ
AnswerOf object = ℕ
AnswerOf object_kind = Kind
AnswerOf handle = Handle
AnswerOf found = Found
AnswerOf counts = ℕ × ℕ × ℕ
AnswerOf (perhaps a) = Option (AnswerOf a)
AnswerOf (several a) = List (AnswerOf a)
AnswerOf (both a b) = AnswerOf a × AnswerOf b

-- THE PLACES of a program: its two references, and the objects that these are to
pub data Which : Type 0 where
  one : Which
  other : Which

-- what stands at the two places
abbrev pub at_both : {A : Type 0} → A → A → Which → A
at_both x y one = x
at_both x y other = y

-- the references of a call that is handed one, and of a call that is handed none
abbrev pub handed_one : Word → Which → Word
handed_one a = at_both a Nothing

abbrev pub handed_none : Which → Word
handed_none = at_both Nothing Nothing

-- no object is known yet
abbrev pub none_known : Which → Option ℕ
none_known = at_both None None

-- the object at a place is known, or that there is none
abbrev pub set_known : (Which → Option ℕ) → Which → Option ℕ → Which → Option ℕ
set_known known one x = at_both x (known other)
set_known known other x = at_both (known one) x

-- WHAT A PROGRAM ENDS WITH, by how many words of array space it asks for, and what it answers.
-- "The object" is the one at hand: that which was wanted last
pub data Ending : ℕ → AnswerKind → Type 0 where
  gives_kind : {n : ℕ} → Kind → Ending n object_kind
  gives_number : {n : ℕ} → ℕ → Ending n number
  gives_object : {n : ℕ} → Ending n object
  -- REFERENCES: whether both places have one object, the type of a reference, and references that are made and deleted
  compares : {n : ℕ} → Ending n truth
  types : {n : ℕ} → Which → Ending n number
  creates : {n : ℕ} → RefKind → Which → Ending n (perhaps handle)
  refers : {n : ℕ} → Which → Ending n (perhaps handle)
  deletes : {n : ℕ} → RefKind → Which → Ending n nothing
  deletes_local : {n : ℕ} → Which → Ending n nothing
  -- FRAMES: so many places are free, one more frame that has so many, the last one goes, and all go
  asks_room : {n : ℕ} → ℕ → Ending n nothing
  pushes : {n : ℕ} → ℕ → Ending n nothing
  pops_to : {n : ℕ} → Which → Ending n (perhaps handle)
  frees : {n : ℕ} → Ending n nothing
  -- NEW OBJECTS: of these words, or of so many that name what stands at a place, zeros for none
  makes : Kind → (words : List ℕ) → Ending (length words) handle
  fills : Kind → (n : ℕ) → Option Which → Ending n handle
  -- ELEMENTS of the object: one, so many from an index on, all of so many in a copy, and one or several, written
  reads : {n : ℕ} → ℕ → Ending n number
  reads_from : {n : ℕ} → ℕ → ℕ → Ending n (several number)
  copies : {n : ℕ} → ℕ → Ending n (several number)
  writes : {n : ℕ} → ℕ → ℕ → Ending n nothing
  writes_to : {n : ℕ} → ℕ → Which → Ending n nothing
  writes_from : {n : ℕ} → ℕ → List ℕ → Ending n nothing

-- A PROGRAM
pub data Program : ℕ → AnswerKind → Type 0 where
  -- it ends
  ends : {n : ℕ} {a : AnswerKind} → Ending n a → Program n a
  -- a reference is resolved, or both are: what it is to stands at its place
  names : {n : ℕ} {a : AnswerKind} → Which → Program n a → Program n a
  names_both : {n : ℕ} {a : AnswerKind} → Program n a → Program n a
  -- what stands at the place is the object from here on: E1 for none
  wants : {n : ℕ} {a : AnswerKind} → Which → Program n a → Program n a
  -- the object is looked at: its kind and its length
  looks : {n : ℕ} {a : AnswerKind} → (Kind → ℕ → Program n a) → Program n a
  -- tests refuse
  tests : {n : ℕ} {a : AnswerKind} → (ts : Tests) → AreSilent ts → Program n a → Program n a
  -- an element is read, and what it names stands at the first place
  finds : {n : ℕ} {a : AnswerKind} → ℕ → Program n a → Program n a

-- the word that names what is known of a place, 0 for no place
abbrev pub filled_with : (Which → Option ℕ) → Option Which → ℕ
filled_with known None = 0
filled_with known (Some w) = element_word (known w)

module _ (c : Config) (last thread : ℕ) (words : Which → Word) where
  -- WHAT AN ENDING IS TO THIS MACHINE, where this is known of the places, and this is the object
  abbrev pub ended : {n : ℕ} {a : AnswerKind} → Ending n a → (Which → Option ℕ) → ℕ → Call (AnswerOf a)
  ended (gives_kind k) known o = done k
  ended (gives_number n) known o = done n
  ended gives_object known o = done o
  ended compares known o = done (same_object (known one) (known other))
  ended (types w) known o = typing c thread (words w)
  ended (creates k w) known o = created c.slots k (known w)
  ended (refers w) known o = new_local c last thread (known w)
  ended (deletes k w) known o = removal c k (words w)
  ended (deletes_local w) known o = local_removal c thread (words w)
  ended (asks_room n) known o = room_for c last thread n
  ended (pushes n) known o = do
    frame_left
    room_for c last thread n
    new_frame
  ended (pops_to w) known o = do
    frame_to_pop
    x ← resolved c last thread (words w)
    popping c last thread x
  ended frees known o = freeing
  ended (makes k ws) known o = made c last thread k ws
  ended (fills k n w) known o = made c last thread k (replicate n (filled_with known w))
  ended (reads i) known o = some_act (Read o i)
  ended (reads_from start n) known o = read o start n
  ended (copies n) known o = unless_memory_for n (read o 0 n)
  ended (writes i v) known o = act (Write o i v)
  ended (writes_to i w) known o = act (Write o i (element_word (known w)))
  ended (writes_from start vs) known o = write o start vs

module _ (c : Config) (last thread : ℕ) (s : State) (words : Which → Word) where
  -- WHAT A PROGRAM IS TO THIS MACHINE: the call, in s, the state that it leaves.
  -- The objects that it names have their kind and length there
  abbrev pub call_of : {n : ℕ} {a : AnswerKind} → Program n a → (Which → Option ℕ) → ℕ → Call (AnswerOf a)
  call_of (ends e) known o = ended c last thread words e known o
  call_of (names w p) known o = resolved c last thread (words w) >>= (λ x. call_of p (set_known known w x) o)
  call_of (names_both p) known o =
      resolved_both c last thread (words one) (words other) >>= (λ x. call_of p (at_both x.0 x.1) o)
  call_of (wants w p) known o = not_null (known w) >>= (λ q. call_of p known q)
  call_of (looks next) known o = for_object s o (λ k n. call_of (next k n) known o)
  call_of (tests ts silent p) known o = tested ts (call_of p known o)
  call_of (finds i p) known o =
      some_act (Read o i) >>= (λ v. call_of p (set_known known one (object_of_word v)) o)

  -- a whole program, before which nothing is known
  abbrev pub work_of : {n : ℕ} {a : AnswerKind} → Program n a → Call (AnswerOf a)
  work_of p = call_of p none_known 0

-- a program at an object, as that of a level
abbrev pub at_object : Config → ℕ → ℕ → State → ℕ → {n : ℕ} {a : AnswerKind} → Program n a → Call (AnswerOf a)
at_object c last thread s o p = call_of c last thread s handed_none p none_known o
