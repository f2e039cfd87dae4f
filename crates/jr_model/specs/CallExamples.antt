-- Worked examples of calls: the acts and the answer that they may have.
use Rattle.std.specs.Prelude.{◌≡◌, ℕ, true, Ok, Err, Some, None, List, [], ◌∷◌, length, replicate, nat_eq}
use Rattle.jr_word.specs.declared.config.Config.{Config}
use Rattle.jr_word.specs.declared.handle.RefKind.TheVariants.{Local, Global, Weak}
use Rattle.jr_word.specs.declared.fault.Fault.TheVariants as fault
use Rattle.jr_word.specs.declared.kind.Kind.TheVariants.{Int, Text}
use Rattle.jr_model.specs.declared.event.Found.TheVariants.{Cleared}
use Rattle.jr_model.specs.declared.event.Act.TheVariants.{Gate, Look, ReserveFull}
use Rattle.jr_model.specs.declared.event.GateAct.TheVariants.{Enter, Knock, Leave, Withdraw}
use Rattle.jr_model.specs.Maps.{update}
use Rattle.jr_model.specs.State.{Handle, State, opening}
use Rattle.jr_model.specs.Frames.{Frames, fresh_frames}
use Rattle.jr_model.specs.Checks.{Word, Nothing, Malformed, Parts}
use Rattle.jr_model.specs.Calls.{Call}
use Rattle.jr_model.specs.Parts.{elements_get, elements_set, elements_length}
use Rattle.jr_model.specs.Programs.{AnswerKind, AnswerOf, Program, Which, object, at_both, at_object, handed_none}
use Rattle.jr_model.specs.Programs.{handed_one}
use Rattle.jr_model.specs.CallPrograms.{delete_reference, get_array_critical, get_array_length, get_object_ref_type}
use Rattle.jr_model.specs.CallPrograms.{get_string_critical, is_same_object, new_array, new_reference, pop_local_frame}
use Rattle.jr_model.specs.CallPrograms.{region_kind, region_length}
use Rattle.jr_model.specs.AllCalls.{enters, means, nests}
use Rattle.jr_model.specs.Examples.{last_serial, w}

-- two threads, four slots and sixteen places, where nothing was made
abbrev pub quiet_room : Config
quiet_room = record { threads = 2; slots = 4; objects = 8; words = 16; locals = 16 }

-- a call of thread 0 in a stay of its own, where nothing was made
abbrev pub called : {n : ℕ} {a : AnswerKind} → (Which → Word) → Program n a → Call (AnswerOf a)
called words p = means quiet_room last_serial 0 opening (enters words p)

-- the frames of thread 0
abbrev pub fresh : Frames
fresh = fresh_frames 16

-- a local reference that was never given
abbrev pub never_given : Handle
never_given = record { kind = Local; serial = 0; index = 0; owner = 0 }

-- a global reference of an index past the row
abbrev pub past_the_row : Handle
past_the_row = record { kind = Global; serial = 0; index = 4; owner = 0 }

-- a local reference of thread 1
abbrev pub of_another : Handle
of_another = record { kind = Local; serial = 0; index = 0; owner = 1 }

-- GetArrayLength where nothing was made: E1 for NULL, E2 for a word that is no handle, for a handle past
-- the row and for one that was never given, E3 for one of another thread. None of them is looked up
pub record LengthOfNothing : Type 0 where
  pub null : called (handed_one Nothing) get_array_length fresh (Gate Enter ∷ Gate Leave ∷ [])
      (Err fault.Null) fresh
  pub malformed : called (handed_one Malformed) get_array_length fresh (Gate Enter ∷ Gate Leave ∷ [])
      (Err fault.Stale) fresh
  pub outside : called (handed_one (Parts past_the_row)) get_array_length fresh
      (Gate Enter ∷ Gate Leave ∷ []) (Err fault.Stale) fresh
  pub unknown : called (handed_one (Parts never_given)) get_array_length fresh
      (Gate Enter ∷ Gate Leave ∷ []) (Err fault.Stale) fresh
  pub foreign : called (handed_one (Parts of_another)) get_array_length fresh
      (Gate Enter ∷ Gate Leave ∷ []) (Err fault.Foreign) fresh
  pub barred : called (handed_one Nothing) get_array_length fresh (Gate Knock ∷ Gate Withdraw ∷ [])
      (Err fault.Barred) fresh

-- GetObjectRefType of each of them is 0
pub record TypeOfNothing : Type 0 where
  pub null : called (handed_one Nothing) get_object_ref_type fresh (Gate Enter ∷ Gate Leave ∷ []) (Ok 0) fresh
  pub malformed : called (handed_one Malformed) get_object_ref_type fresh (Gate Enter ∷ Gate Leave ∷ []) (Ok 0)
      fresh
  pub outside : called (handed_one (Parts past_the_row)) get_object_ref_type fresh (Gate Enter ∷ Gate Leave ∷ [])
      (Ok 0) fresh
  pub unknown : called (handed_one (Parts never_given)) get_object_ref_type fresh (Gate Enter ∷ Gate Leave ∷ [])
      (Ok 0) fresh
  pub foreign : called (handed_one (Parts of_another)) get_object_ref_type fresh (Gate Enter ∷ Gate Leave ∷ [])
      (Ok 0) fresh

-- a cleared weak reference has type 3 and no other, is the same as NULL, and a new global reference to it is NULL;
-- DeleteGlobalRef of it is E4 without a look
pub record CallsOnCleared : Type 0 where
  pub type : called (handed_one (Parts w)) get_object_ref_type fresh
      (Gate Enter ∷ Look w Cleared ∷ Gate Leave ∷ []) (Ok 3) fresh
  pub type_only : (n : ℕ) (g : Frames) → called (handed_one (Parts w)) get_object_ref_type fresh
      (Gate Enter ∷ Look w Cleared ∷ Gate Leave ∷ []) (Ok n) g → n ≡ 3
  pub same : called (at_both (Parts w) Nothing) is_same_object fresh
      (Gate Enter ∷ Look w Cleared ∷ Gate Leave ∷ []) (Ok true) fresh
  pub global : called (handed_one (Parts w)) (new_reference Global) fresh
      (Gate Enter ∷ Look w Cleared ∷ Gate Leave ∷ []) (Ok None) fresh
  pub other_kind : called (handed_one (Parts w)) (delete_reference Global) fresh (Gate Enter ∷ Gate Leave ∷ [])
      (Err fault.WrongKind) fresh

-- deleting NULL does nothing, and the base frame can't be popped
pub record CallsOnNull : Type 0 where
  pub delete : called (handed_one Nothing) (delete_reference Weak) fresh (Gate Enter ∷ Gate Leave ∷ []) (Ok tt) fresh
  pub pop : called (handed_one Nothing) pop_local_frame fresh (Gate Enter ∷ Gate Leave ∷ []) (Err fault.NoFrame)
      fresh

-- a string of two units, and its local reference
abbrev pub with_text : State
with_text =
    record opening { objects = update nat_eq opening.objects 3 (Some (record { kind = Text; words = 104 ∷ 105 ∷ [] })) }

abbrev pub named : Frames
named = record { frames = (record { handle = never_given; object = 3 } ∷ []) ∷ []; given = 1 ∷ replicate 15 0 }

-- a further level at that reference, of a region whose levels have these objects
abbrev pub next_level : List ℕ → (ℕ → Program 0 object) → Call (ℕ × List ℕ)
next_level levels p =
    means quiet_room last_serial 0 with_text (nests levels (handed_one (Parts never_given)) (p (length levels)))

-- a further level of a region at the string: it is number 1, has two units, and has no act;
-- the 17th is E17, and the string is no array
pub record SecondLevel : Type 0 where
  pub nested : next_level (5 ∷ []) get_string_critical named [] (Ok (1, 5 ∷ 3 ∷ [])) named
  pub full : next_level (replicate 16 5) get_string_critical named [] (Err fault.Size) named
  pub array : next_level (5 ∷ []) get_array_critical named [] (Err fault.NotArray) named
  pub kind : at_object quiet_room last_serial 0 with_text 3 region_kind named [] (Ok Text) named
  pub long : at_object quiet_room last_serial 0 with_text 3 region_length named [] (Ok 2) named

-- elements that were copied: read, set, counted, and E7 past the last
pub record CopiedElements : Type 0 where
  pub got : elements_get (7 ∷ 8 ∷ []) 1 fresh [] (Ok 8) fresh
  pub got_past : elements_get (7 ∷ 8 ∷ []) 2 fresh [] (Err fault.Range) fresh
  pub set : elements_set (7 ∷ 8 ∷ []) 0 9 fresh [] (Ok (9 ∷ 8 ∷ [])) fresh
  pub set_past : elements_set (7 ∷ 8 ∷ []) 2 9 fresh [] (Err fault.Range) fresh
  pub long : elements_length (7 ∷ 8 ∷ []) fresh [] (Ok 2) fresh

-- an array of 20 words in a room of 16, of which three are used:
-- it is E10 with the three that its reservation found, with no other number, and not without that act
pub record ArrayLacksSpace : Type 0 where
  pub refused : called handed_none (new_array Int 20) fresh (Gate Enter ∷ ReserveFull 20 3 ∷ Gate Leave ∷ [])
      (Err (fault.SpaceFull 3)) fresh
  pub found_only : (u : ℕ) (g : Frames) → called handed_none (new_array Int 20) fresh
      (Gate Enter ∷ ReserveFull 20 3 ∷ Gate Leave ∷ []) (Err (fault.SpaceFull u)) g → u ≡ 3
  pub asks_first : (u : ℕ) (g : Frames)
      → ¬ (called handed_none (new_array Int 20) fresh (Gate Enter ∷ Gate Leave ∷ []) (Err (fault.SpaceFull u)) g)
