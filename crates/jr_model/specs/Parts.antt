-- The parts that calls are made of, among them the calls of gate, slots and heap.
use Rattle.std.specs.Prelude.{◌≡◌, ◌<◌, ◌+◌, ◌||◌, ℕ, zero, suc, Bool, not, cond, nat_lt, nat_le}
use Rattle.std.specs.Prelude.{Option, Some, None, Result, Ok, Err, List, [], ◌∷◌, ◌++◌, map, length}
use Rattle.std.specs.Prelude.{slice_index, slice_set}
use Rattle.jr_word.specs.declared.handle.RefKind.{RefKind}
use Rattle.jr_word.specs.declared.kind.Kind.{Kind}
use Rattle.jr_word.specs.declared.fault.Fault.{Fault}
use Rattle.jr_word.specs.declared.fault.Fault.TheVariants.{Null, NotArray, Range, RowFull, LocalsFull, SpaceFull}
use Rattle.jr_word.specs.declared.fault.Fault.TheVariants.{ObjectsFull, Raced, Barred, Busy, NoFrame, Value, Moved}
use Rattle.jr_word.specs.declared.fault.Fault.TheVariants as fault
use Rattle.jr_model.specs.declared.event.Found.{Found}
use Rattle.jr_model.specs.declared.event.Found.TheVariants.{Object, Cleared, Stale}
use Rattle.jr_model.specs.declared.event.Act.{Act}
use Rattle.jr_model.specs.declared.event.Act.TheVariants.{Gate, ShutBusy, Create, Look, Probe, Delete}
use Rattle.jr_model.specs.declared.event.Act.TheVariants.{DeleteStale, LocalDrop, Reserve, ReserveFull}
use Rattle.jr_model.specs.declared.event.Act.TheVariants.{ReserveLost, New, Read, Write, Meet}
use Rattle.jr_model.specs.declared.event.GateAct.TheVariants.{Enter, Knock, Leave, Withdraw}
use Rattle.jr_model.specs.declared.event.GateAct.TheVariants.{Announce, Cancel, Shut, Reopen}
use Rattle.jr_model.specs.declared.frames.TheConstants.{FRAMES}
use Rattle.jr_model.specs.State.{Handle, State}
use Rattle.jr_model.specs.Frames.{object_of, pushed, popped, without_local, last_frame, drop_all}
use Rattle.jr_model.specs.CollectionCalls.{collection_acts}
use Rattle.jr_model.specs.Calls.{Call, ◌>>=◌, ◌>>◌, act, at_most, decided, done}
use Rattle.jr_model.specs.Calls.{one_of, refuse, refuse_if, some_act, for_object}
use Rattle.jr_model.specs.Tests.{Tests, tested}
use Rattle.jr_model.specs.Checks.{Word, Parts, is_local, is_plain, is_text, is_value, type_found, type_local}

-- THE GATE

-- into the gate, or a knock that is withdrawn
abbrev pub enter : Call (Unit {0})
enter = one_of (act (Gate Enter)) (do
  act (Gate Knock)
  act (Gate Withdraw)
  refuse Barred)

-- out of the gate
abbrev pub leave : Call (Unit {0})
leave = act (Gate Leave)

-- the gate is shut, or so many threads are not outside
abbrev pub shut : Call (Unit {0})
shut = one_of (act (Gate Shut)) (do
  n ← some_act ShutBusy
  refuse (Busy n))

-- the gate is opened after a collection
abbrev pub reopen : Call (Unit {0})
reopen = act (Gate Reopen)

-- THE SLOTS

-- what stands at the handle
abbrev pub look : Handle → Call Found
look h = some_act (Look h)

-- any number of probes; `create` bounds it
abbrev pub probes : Call (Unit {0})
probes old acts answer new =
    (looks : List (ℕ × Bool)) × (acts ≡ map (λ l. Probe l.0 l.1) looks) × (answer ≡ Ok tt) × (new ≡ old)

-- the creation of some handle of the kind
abbrev pub created_with : RefKind → ℕ → Call Handle
created_with k o old acts answer new =
    (h : Handle) × (h.kind ≡ k) × (acts ≡ Create h o ∷ []) × (answer ≡ Ok h) × (new ≡ old)

-- probes and then the creation, or probes alone, by two acts at the most for each of so many slots
abbrev pub create : ℕ → RefKind → ℕ → Call Handle
create slots k o = at_most (slots + slots) (do
  probes
  one_of (created_with k o) (refuse RowFull))

-- a new reference to the object in one of so many slots, NULL for none
abbrev pub created : ℕ → RefKind → Option ℕ → Call (Option Handle)
created slots k None = done None
created slots k (Some o) = do
  h ← create slots k o
  done (Some h)

-- the deletion of a reference that a look found, which another thread may be faster at
abbrev pub delete_found : Handle → Found → Call (Unit {0})
delete_found h Stale = refuse fault.Stale
delete_found h _ = one_of (act (Delete h)) (do
  act (DeleteStale h)
  refuse fault.Stale)

-- a look, and then the deletion
abbrev pub delete : Handle → Call (Unit {0})
delete h = do
  r ← look h
  delete_found h r

-- WHAT A REFERENCE IS TO

-- the answer of a look: the object found, none where the reference is cleared
abbrev pub found_answer : Found → Result (Option ℕ) Fault
found_answer (Object o) = Ok (Some o)
found_answer Cleared = Ok None
found_answer Stale = Err fault.Stale

abbrev pub found_object : Found → Call (Option ℕ)
found_object r = decided (found_answer r)

-- the answer for a local reference: the object of the one that stands
abbrev pub local_answer : Option ℕ → Result (Option ℕ) Fault
local_answer (Some o) = Ok (Some o)
local_answer None = Err fault.Stale

abbrev pub local_object : Option ℕ → Call (Option ℕ)
local_object z = decided (local_answer z)

-- the object of a handle: no act for a local one, a look for any other
abbrev pub looked_at : Handle → Call (Option ℕ)
looked_at h = cond (is_local h) (λ old. local_object (object_of old h) old) (look h >>= found_object)

-- the object of a reference, none for NULL
abbrev pub looked : Word → Call (Option ℕ)
looked (Parts h) = looked_at h
looked _ = done None

-- the object, where there is one
abbrev pub not_null : Option ℕ → Call ℕ
not_null (Some o) = done o
not_null None = refuse Null

-- the type of a reference that is neither malformed, out of bounds nor foreign
abbrev pub type_at : Word → Call ℕ
type_at (Parts h) = cond (is_local h) (λ old. done (type_local (object_of old h)) old) (do
  r ← look h
  done (type_found h.kind r))
type_at _ = done 0

-- the deletion of a global or weak reference; nothing for NULL
abbrev pub delete_at : Word → Call (Unit {0})
delete_at (Parts h) = delete h
delete_at _ = done tt

-- THE HEAP

-- space for n words; none is asked for where n is 0
abbrev pub reserve : ℕ → Call (Unit {0})
reserve zero = done tt
reserve (suc n) = one_of (act (Reserve (suc n)))
    (one_of (do u ← some_act (ReserveFull (suc n)); refuse (SpaceFull u))
    (do l ← some_act {X = ℕ × ℕ} (λ l. ReserveLost (suc n) l.0 l.1); refuse (Raced l.0 l.1)))

-- a new object of these words, at some number
abbrev pub publish : Kind → List ℕ → Call ℕ
publish k ws = one_of (some_act (λ o. New o k ws)) (refuse ObjectsFull)

-- the kind and the length of an object
abbrev pub header : State → ℕ → Call (Kind × ℕ)
header s o = for_object s o (λ k n. done (k, n))

-- what a read of an element asks of its object
abbrev pub read_tests : ℕ → Kind → ℕ → Tests
read_tests i k n = (is_plain k, NotArray) ∷ (nat_le n i, Range) ∷ []

-- one element
abbrev pub read_element : State → ℕ → ℕ → Call ℕ
read_element s o i = for_object s o (λ k n. tested (read_tests i k n) (some_act (Read o i)))

-- what a write asks of the object, and of the word
abbrev pub write_tests : ℕ → ℕ → Kind → ℕ → Tests
write_tests i v k n = (is_plain k || is_text k, NotArray) ∷ (nat_le n i, Range) ∷ (not (is_value k v), Value) ∷ []

-- one element is written
abbrev pub write_element : State → ℕ → ℕ → ℕ → Call (Unit {0})
write_element s o i v = for_object s o (λ k n. tested (write_tests i v k n) (act (Write o i v)))

-- the reads that find these words from start on, rising
abbrev pub read_acts : ℕ → ℕ → List ℕ → List Act
read_acts o start [] = []
read_acts o start (v ∷ vs) = Read o start v ∷ read_acts o (start + 1) vs

-- the writes of these words from start on, rising
abbrev pub write_acts : ℕ → ℕ → List ℕ → List Act
write_acts o start [] = []
write_acts o start (v ∷ vs) = Write o start v ∷ write_acts o (start + 1) vs

-- n elements from start on
abbrev pub read : ℕ → ℕ → ℕ → Call (List ℕ)
read o start n old acts answer new =
    (vs : List ℕ) × (length vs ≡ n) × (acts ≡ read_acts o start vs) × (answer ≡ Ok vs) × (new ≡ old)

-- these words are written from start on
abbrev pub write : ℕ → ℕ → List ℕ → Call (Unit {0})
write o start vs old acts answer new = (acts ≡ write_acts o start vs) × (answer ≡ Ok tt) × (new ≡ old)

-- THE LOCAL REFERENCES

-- fewer frames are open than there may be
abbrev pub frame_left : Call (Unit {0})
frame_left old = refuse_if (nat_le FRAMES (length old.frames)) LocalsFull old

-- an empty frame is added
abbrev pub new_frame : Call (Unit {0})
new_frame old acts answer new = (acts ≡ []) × (answer ≡ Ok tt) × (new ≡ pushed old)

-- there is a frame above the base frame
abbrev pub frame_to_pop : Call (Unit {0})
frame_to_pop old = refuse_if (nat_lt (length old.frames) 2) NoFrame old

-- the last frame is taken away
abbrev pub take_frame : Call (Unit {0})
take_frame old acts answer new = (acts ≡ drop_all (last_frame old.frames)) × (answer ≡ Ok tt) × (new ≡ popped old)

-- the reference is taken out of its frame
abbrev pub drop_local : Handle → Call (Unit {0})
drop_local h old acts answer new = (acts ≡ LocalDrop h.index ∷ []) × (answer ≡ Ok tt) × (new ≡ without_local old h)

-- the deletion of a local reference; nothing for NULL
abbrev pub delete_local_at : Word → Call (Unit {0})
delete_local_at (Parts h) = do
  looked_at h
  drop_local h
delete_local_at _ = done tt

-- THE ROOM AS A WHOLE

-- a collection, which answers how many references it cleared, how many objects it dropped, and how many words are used
abbrev pub collected : Call (ℕ × ℕ × ℕ)
collected old acts answer new =
    (cleared : List Handle) × (dropped : List ℕ) × (used : ℕ)
    × (acts ≡ collection_acts cleared dropped used)
    × (answer ≡ Ok (length cleared, length dropped, used)) × (new ≡ old)

-- a collection, or so many threads are not outside.
-- This names the acts alone, and would let one pass that clears and drops nothing:
-- what a collection must take is `Collects` of CollectionCalls.antt, and a contract of one cites that beside its answer
abbrev pub collect : Call (ℕ × ℕ × ℕ)
collect = one_of collected (do
  n ← some_act ShutBusy
  refuse (Busy n))

-- the gate is closed by another thread: with that one so many are not outside
abbrev pub found_closed : {A : Type 0} → Call A
found_closed = do
  n ← some_act ShutBusy
  refuse (Busy n)

-- another thread went in or out between a look at the gate and the exchange: two counts of an open gate, and no act
abbrev pub found_moved : Call (Unit {0})
found_moved old acts answer new = (looked : ℕ) × (found : ℕ) × refuse (Moved looked found) old acts answer new

-- it is announced that the gate will be shut, after a look at it
abbrev pub announce : Call (Unit {0})
announce = one_of found_closed (do
  act Meet
  one_of (act (Gate Announce)) (one_of found_closed (do
    act Meet
    found_moved)))

-- shuts that are refused, so many as this says
abbrev pub refused_shuts : (ℕ → Type 0) → Call (Unit {0})
refused_shuts many old acts answer new =
    (counts : List ℕ) × many (length counts) × (acts ≡ map ShutBusy counts) × (answer ≡ Ok tt) × (new ≡ old)

-- a collection that is announced: it begins after fewer refused shuts than there are tries,
-- or the last of them is refused too, with this count, and the announcement is taken back.
-- Like `collect` it names the acts alone: what it must take from its shut on is `Collects`
abbrev pub collect_announced : ℕ → Call (ℕ × ℕ × ℕ)
collect_announced tries = do
  announce
  one_of (do
    refused_shuts (λ n. n < tries)
    collected) (do
      refused_shuts (λ n. n + 1 ≡ tries)
      n ← some_act ShutBusy
      act (Gate Cancel)
      refuse (Busy n))

-- what another pass saw is learned
abbrev pub meet : Call (Unit {0})
meet = act Meet

-- REGIONS

-- a further level of a region whose levels have these objects: the number of the new level, and the objects then
abbrev pub nested : List ℕ → ℕ → Call (ℕ × List ℕ)
nested levels o = done (length levels, levels ++ o ∷ [])

-- the last level of a region is given up, where so many stand: with the first one the stay ends.
-- A region is no copy, so that no mode writes or keeps anything
abbrev pub region_release : ℕ → Call (Unit {0})
region_release (suc zero) = leave
region_release _ = done tt

-- COPIED ELEMENTS, which a call hands out and takes back:
-- a list of their own, so that nothing is entered and nothing of the room is looked at

-- one of the copied elements
abbrev pub elements_get : List ℕ → ℕ → Call ℕ
elements_get buffer i = do
  refuse_if (nat_le (length buffer) i) Range
  done (slice_index buffer i)

-- one of them is set: the elements then
abbrev pub elements_set : List ℕ → ℕ → ℕ → Call (List ℕ)
elements_set buffer i v = do
  refuse_if (nat_le (length buffer) i) Range
  done (slice_set buffer i v)

-- how many they are
abbrev pub elements_length : List ℕ → Call ℕ
elements_length buffer = done (length buffer)
