-- Worked examples: histories that are legal, what they leave, and events that may not come after them.
use Rattle.std.specs.Prelude.{◌≡◌, ◌≢◌, ◌≤◌, ℕ, true, false, [], ◌∷◌, ◌++◌}
use Rattle.jr_word.specs.declared.config.Config.{Config}
use Rattle.jr_word.specs.declared.handle.RefKind.TheVariants.{Global, Weak}
use Rattle.jr_word.specs.declared.kind.Kind.TheVariants.{Plain, Int}
use Rattle.jr_model.specs.declared.event.Found.TheVariants.{Object, Cleared, Stale}
use Rattle.jr_model.specs.declared.event.Act.TheVariants.{Gate, ShutBusy, Create, Look, Probe, Delete}
use Rattle.jr_model.specs.declared.event.Act.TheVariants.{Clear, LocalPut, LocalDrop, Reserve, ReserveFull}
use Rattle.jr_model.specs.declared.event.Act.TheVariants.{ReserveLost, New, Read, Write, Drop, Settle, Meet}
use Rattle.jr_model.specs.declared.event.GateAct.TheVariants.{Enter, Knock, Leave, Withdraw}
use Rattle.jr_model.specs.declared.event.GateAct.TheVariants.{Announce, Cancel, Shut, Reopen}
use Rattle.jr_model.specs.declared.summary.Summary.{Summary}
use Rattle.jr_model.specs.State.{Handle, summary}
use Rattle.jr_model.specs.History.{History, by, state, IsLegal}

-- a summary of so many global and weak references, present objects and used words
abbrev pub counts : ℕ → ℕ → ℕ → ℕ → Summary
counts globals weaks live used = record { globals = globals; weaks = weaks; live = live; used = used }

-- the last serial
abbrev pub last_serial : ℕ
last_serial = 4294967295

-- ONE THREAD MAKES A GLOBAL REFERENCE AND DROPS IT

abbrev pub one_thread : Config
one_thread = record { threads = 1; slots = 4; objects = 8; words = 16; locals = 16 }

abbrev pub g : Handle
g = record { kind = Global; serial = 0; index = 0; owner = 0 }

abbrev pub plain_p : History
plain_p = by 0 (Gate Enter) ∷ by 0 (New 1 Plain []) ∷ by 0 (LocalPut 0 1) ∷ by 0 (Gate Leave) ∷ []

abbrev pub global_g : History
global_g = by 0 (Gate Enter) ∷ by 0 (Probe 0 false) ∷ by 0 (Create g 1) ∷ by 0 (Gate Leave) ∷ []

abbrev pub type_g : History
type_g = by 0 (Gate Enter) ∷ by 0 (Look g (Object 1)) ∷ by 0 (Gate Leave) ∷ []

abbrev pub drop_g : History
drop_g = by 0 (Gate Enter) ∷ by 0 (Look g (Object 1)) ∷ by 0 (Delete g) ∷ by 0 (Gate Leave) ∷ []

abbrev pub type_g_again : History
type_g_again = by 0 (Gate Enter) ∷ by 0 (Look g Stale) ∷ by 0 (Gate Leave) ∷ []

abbrev pub free_p : History
free_p = by 0 (Gate Enter) ∷ by 0 (LocalDrop 0) ∷ by 0 (Gate Leave) ∷ []

abbrev pub reference_dropped : History
reference_dropped = plain_p ++ global_g ++ type_g ++ drop_g ++ type_g_again ++ free_p

-- an object and a global reference to it, which is found, dropped and then stale; at the end the object is left
abbrev pub DropIsLegal : Type 0
DropIsLegal = IsLegal one_thread last_serial reference_dropped
    × (summary one_thread last_serial (state reference_dropped) ≡ counts 0 0 1 0)

-- a look that finds the dropped reference is not legal
abbrev pub FindingDroppedIsIllegal : Type 0
FindingDroppedIsIllegal = (t o : ℕ) → ¬ (IsLegal one_thread last_serial
    (plain_p ++ global_g ++ drop_g ++ by 0 (Gate Enter) ∷ by t (Look g (Object o)) ∷ []))

-- a creation at an index where a reference stands is not legal
abbrev pub CreatingBesideIsIllegal : Type 0
CreatingBesideIsIllegal = (t o : ℕ) (h : Handle) → h.index ≡ 0
    → ¬ (IsLegal one_thread last_serial (plain_p ++ global_g ++ by 0 (Gate Enter) ∷ by t (Create h o) ∷ []))

-- TWO THREADS AT THE GATE

abbrev pub two_threads : Config
two_threads = record { threads = 2; slots = 4; objects = 8; words = 8; locals = 16 }

-- thread 1 can't shut the gate while thread 0 is inside; then it shuts it, and thread 0 can neither enter nor shut it;
-- then the gate is opened
abbrev pub gate_passed : History
gate_passed = by 0 (Gate Enter) ∷ by 1 (ShutBusy 1) ∷ by 0 (Gate Leave) ∷ by 1 (Gate Shut) ∷ by 0 (Gate Knock)
    ∷ by 0 (Gate Withdraw) ∷ by 0 (ShutBusy 1) ∷ by 0 Meet ∷ by 1 (Gate Reopen) ∷ by 0 Meet ∷ []

-- this is legal, and the room is empty
abbrev pub GateIsLegal : Type 0
GateIsLegal =
    IsLegal two_threads last_serial gate_passed × (summary two_threads last_serial (state gate_passed) ≡ counts 0 0 0 0)

-- a refused shut that counts another number than that of the threads inside is not legal
abbrev pub WrongCountIsIllegal : Type 0
WrongCountIsIllegal = (n : ℕ) → n ≢ 1 → ¬ (IsLegal two_threads last_serial (by 0 (Gate Enter) ∷ by 1 (ShutBusy n) ∷ []))

-- a shut while a thread is inside is not legal
abbrev pub ShuttingOverIsIllegal : Type 0
ShuttingOverIsIllegal = ¬ (IsLegal two_threads last_serial (by 0 (Gate Enter) ∷ by 1 (Gate Shut) ∷ []))

-- an entry while a thread collects is not legal
abbrev pub EnteringBesideIsIllegal : Type 0
EnteringBesideIsIllegal = ¬ (IsLegal two_threads last_serial (by 1 (Gate Shut) ∷ by 0 (Gate Enter) ∷ []))

-- a knock at a gate that nobody keeps closed is not legal
abbrev pub KnockingAtOpenIsIllegal : Type 0
KnockingAtOpenIsIllegal = (t : ℕ) → ¬ (IsLegal two_threads last_serial (by t (Gate Knock) ∷ []))

-- AN ANNOUNCED CLOSING OF THE GATE

abbrev pub three_threads : Config
three_threads = record { threads = 3; slots = 4; objects = 8; words = 8; locals = 16 }

-- thread 0 is inside when thread 1 announces that it will shut the gate, which thread 2 then finds closed
abbrev pub gate_announced : History
gate_announced = by 0 (Gate Enter) ∷ by 1 Meet ∷ by 1 (Gate Announce) ∷ by 2 (Gate Knock) ∷ by 2 (Gate Withdraw) ∷ []

-- thread 2 counts two that are not outside, and thread 1 only one, since it doesn't count itself;
-- thread 0 leaves, and thread 2 counts the announcer alone
abbrev pub gate_counted : History
gate_counted = by 2 (ShutBusy 2) ∷ by 1 (ShutBusy 1) ∷ by 0 (Gate Leave) ∷ by 2 (ShutBusy 1) ∷ []

-- thread 1 shuts the gate, which thread 0 finds closed, and reopens it
abbrev pub gate_shut_at_last : History
gate_shut_at_last = by 1 (Gate Shut) ∷ by 0 (Gate Knock) ∷ by 0 (Gate Withdraw) ∷ by 1 (Gate Reopen) ∷ []

-- thread 1 announces it again and takes that back, and thread 0 goes in and out
abbrev pub gate_cancelled : History
gate_cancelled = by 1 (Gate Announce) ∷ by 1 (Gate Cancel) ∷ by 0 (Gate Enter) ∷ by 0 (Gate Leave) ∷ []

abbrev pub gate_twice_announced : History
gate_twice_announced = gate_announced ++ gate_counted ++ gate_shut_at_last ++ gate_cancelled

-- all of this is legal, and the room is empty at the end
abbrev pub AnnouncingIsLegal : Type 0
AnnouncingIsLegal = IsLegal three_threads last_serial gate_twice_announced
    × (summary three_threads last_serial (state gate_twice_announced) ≡ counts 0 0 0 0)

-- an entry behind another thread's announcement is not legal
abbrev pub EnteringAnnouncedIsIllegal : Type 0
EnteringAnnouncedIsIllegal = ¬ (IsLegal three_threads last_serial (by 1 (Gate Announce) ∷ by 0 (Gate Enter) ∷ []))

-- an announcement behind another thread's is not legal
abbrev pub AnnouncingBesideIsIllegal : Type 0
AnnouncingBesideIsIllegal = ¬ (IsLegal three_threads last_serial (by 1 (Gate Announce) ∷ by 2 (Gate Announce) ∷ []))

-- a refused shut of the announcer that counts another number than that of the threads inside is not legal
abbrev pub CountingTheAnnouncerIsIllegal : Type 0
CountingTheAnnouncerIsIllegal = (n : ℕ) → n ≢ 1
    → ¬ (IsLegal three_threads last_serial (by 0 (Gate Enter) ∷ by 1 (Gate Announce) ∷ by 1 (ShutBusy n) ∷ []))

-- a shut of the announcer while a thread is inside is not legal
abbrev pub ShuttingAnnouncedOverIsIllegal : Type 0
ShuttingAnnouncedOverIsIllegal =
    ¬ (IsLegal three_threads last_serial (by 0 (Gate Enter) ∷ by 1 (Gate Announce) ∷ by 1 (Gate Shut) ∷ []))

-- A SLOT GIVES EACH SERIAL ONCE

abbrev pub one_slot : Config
one_slot = record { threads = 1; slots = 1; objects = 8; words = 16; locals = 16 }

-- the handle of the one slot with this serial
abbrev pub serial : ℕ → Handle
serial n = record { kind = Global; serial = n; index = 0; owner = 0 }

abbrev pub create_and_delete : ℕ → History
create_and_delete n = by 0 (Create (serial n) 1) ∷ by 0 (Delete (serial n)) ∷ []

-- with 2 as the last serial, a reference is created and deleted three times
abbrev pub thrice : History
thrice = by 0 (Gate Enter) ∷ by 0 (New 1 Plain []) ∷ create_and_delete 0 ++ create_and_delete 1 ++ create_and_delete 2

-- this is legal, and then a probe finds the slot occupied
abbrev pub ThriceIsLegal : Type 0
ThriceIsLegal = IsLegal one_slot 2 (thrice ++ by 0 (Probe 0 true) ∷ [])

-- and no handle can be created any more
abbrev pub FourthIsIllegal : Type 0
FourthIsIllegal = (t o : ℕ) (h : Handle) → ¬ (IsLegal one_slot 2 (thrice ++ by t (Create h o) ∷ []))

-- SPACE, READS AND WRITES OF TWO THREADS

-- an array of three ints is made and written
abbrev pub space_used : History
space_used = by 0 (Gate Enter) ∷ by 1 (Gate Enter) ∷ by 0 (Reserve 3) ∷ by 0 (New 1 Int (0 ∷ 0 ∷ 0 ∷ []))
    ∷ by 0 (Write 1 2 7) ∷ by 0 (Read 1 2 7) ∷ []

-- six words more find no room beside the three;
-- two words more do, and thread 1, which looked before, loses its reservation
abbrev pub space_contended : History
space_contended = space_used ++ by 0 (ReserveFull 6 3) ∷ by 0 (Reserve 2) ∷ by 1 (ReserveLost 1 3 5)
    ∷ by 0 (New 2 Plain []) ∷ by 0 (Gate Leave) ∷ by 1 (Gate Leave) ∷ []

-- all of this is legal
abbrev pub SpaceIsLegal : Type 0
SpaceIsLegal = IsLegal two_threads last_serial space_contended
    × (summary two_threads last_serial (state space_contended) ≡ counts 0 0 2 5)

-- to refuse words that fit beside the three is not legal
abbrev pub RefusingWhatFitsIsIllegal : Type 0
RefusingWhatFitsIsIllegal = (t n u : ℕ) → n ≤ 5
    → ¬ (IsLegal two_threads last_serial (by 0 (Gate Enter) ∷ by 0 (Reserve 3) ∷ by t (ReserveFull n u) ∷ []))

-- a read of another word than the written one is not legal
abbrev pub ReadingAnotherIsIllegal : Type 0
ReadingAnotherIsIllegal = (t v : ℕ) → v ≢ 7 → ¬ (IsLegal two_threads last_serial
    (by 0 (Gate Enter) ∷ by 0 (Reserve 1) ∷ by 0 (New 1 Int (0 ∷ [])) ∷ by 0 (Write 1 0 7) ∷ by t (Read 1 0 v) ∷ []))

-- an array for which no space was reserved is not legal
abbrev pub MakingBeyondIsIllegal : Type 0
MakingBeyondIsIllegal = (t : ℕ)
    → ¬ (IsLegal two_threads last_serial (by 0 (Gate Enter) ∷ by 0 (Reserve 1) ∷ by t (New 1 Int (0 ∷ 0 ∷ [])) ∷ []))

-- A COLLECTION

abbrev pub one_object : Config
one_object = record { threads = 2; slots = 1; objects = 1; words = 4; locals = 16 }

abbrev pub w : Handle
w = record { kind = Weak; serial = 0; index = 0; owner = 0 }

-- thread 0 makes an array, with a local and a weak reference to it
abbrev pub array_made : History
array_made = by 0 (Gate Enter) ∷ by 0 (Reserve 1) ∷ by 0 (New 1 Int (7 ∷ [])) ∷ by 0 (LocalPut 0 1)
    ∷ by 0 (Probe 0 false) ∷ by 0 (Create w 1) ∷ by 0 (Gate Leave) ∷ []

-- thread 1 goes in and writes, and meanwhile thread 0 can't collect; then thread 0 drops its local reference
abbrev pub array_used : History
array_used = by 1 (Gate Enter) ∷ by 0 (ShutBusy 1) ∷ by 1 (Look w (Object 1)) ∷ by 1 (Write 1 0 9) ∷ by 1 (Read 1 0 9)
    ∷ by 1 (Gate Leave) ∷ by 0 (Gate Enter) ∷ by 0 (LocalDrop 0) ∷ by 0 (Gate Leave) ∷ []

-- thread 0 collects, while thread 1 finds the gate shut; then thread 1 finds its reference cleared, and deletes it
abbrev pub array_collected : History
array_collected = by 0 (Gate Shut) ∷ by 1 (Gate Knock) ∷ by 0 (Clear w) ∷ by 0 (Drop 1) ∷ by 1 (Gate Withdraw)
    ∷ by 0 (Settle 0) ∷ by 0 (Gate Reopen) ∷ by 1 (Gate Enter) ∷ by 1 (Look w Cleared) ∷ by 1 (Delete w)
    ∷ by 1 (Look w Stale) ∷ by 1 (Gate Leave) ∷ []

-- all of this is legal
abbrev pub CollectionIsLegal : Type 0
CollectionIsLegal = IsLegal one_object 2 (array_made ++ array_used ++ array_collected)

-- to drop an object that a local reference reaches is not legal, and no more to clear a weak reference to it
abbrev pub CollectingReachedIsIllegal : Type 0
CollectingReachedIsIllegal =
    ¬ (IsLegal one_object 2 (array_made ++ by 0 (Gate Shut) ∷ by 0 (Drop 1) ∷ []))
    × ¬ (IsLegal one_object 2 (array_made ++ by 0 (Gate Shut) ∷ by 0 (Clear w) ∷ []))
