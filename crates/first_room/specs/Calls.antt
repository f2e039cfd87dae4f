-- What each of the two threads does, call by call.
use Rattle.std.specs.Prelude.{◌≡◌, ℕ, zero, suc, Bool, true, false, Option, Some, None, Result, Ok, Err, [], ◌∷◌}
use Rattle.std.specs.Int.{w32}
use Rattle.first_room.specs.declared.TheConstants.{TRIES}
use Rattle.first_room.specs.declared.message.Found.{Found}
use Rattle.first_room.specs.declared.message.Found.TheVariants.{Shared, Visited}
use Rattle.first_room.specs.declared.message.Handed.{Handed}
use Rattle.first_room.specs.declared.message.Handed.TheVariants.{Reference, Turn}
use Rattle.jr_word.specs.declared.config.Config.{Config}
use Rattle.jr_word.specs.declared.fault.Fault.{Fault}
use Rattle.jr_word.specs.declared.fault.Fault.TheVariants.{Busy}
use Rattle.jr_word.specs.declared.handle.Handle.{Handle}
use Rattle.jr_word.specs.declared.handle.RefKind.TheVariants.{Global, Weak}
use Rattle.jr_word.specs.declared.kind.Kind.TheVariants.{Int, Long}
use Rattle.jr_word.specs.Elem.{signed_of}
use Rattle.jr_model.specs.Checks.{Word}
use Rattle.jr_model.specs.History.{History}
use Rattle.jr_model.specs.Parts.{region_release}
use Rattle.jr_model.specs.Programs.{at_object}
use Rattle.jr_model.specs.CallPrograms.{get_array_critical, region_get}
use Rattle.jr_frames.specs.Reading.{IsReadAs}
use Rattle.jr_critical.specs.Levels.{opened_by}
use Rattle.jr_weak.specs.declared.collecting.Collected.{Collected}
use Rattle.jr_env.specs.Collections.{collection}
use Rattle.jr_env.specs.Deeds.{Deed, done, new_plain, new_array, new_object_array, new_reference}
use Rattle.jr_env.specs.Deeds.{delete_reference, is_same_object, get_object_ref_type}
use Rattle.jr_env.specs.Deeds.{push_local_frame, pop_local_frame, set_array_region, ◌>>=◌, ◌>>◌, within_by}
use Rattle.jr_env.specs.Remedies.{collection_in_turn}
use Rattle.jr_threads.specs.Parts.{ComesOfDeed, replied}
use Rattle.jr_threads.specs.Starting.{takes_over}

-- the word of a reference that was made, 0 for NULL
abbrev pub word_made : Option Handle → ℕ
word_made None = 0
word_made (Some h) = h.0

-- a collection is refused, with so many threads inside
abbrev pub is_kept_out : Deed ℕ
is_kept_out old answer new = (n : ℕ) × (answer ≡ Ok n) × collection old (Err (Busy n)) new

-- a collection is announced, and again as long as it gets no turn, up to some number of times
abbrev pub collecting_in_turn : Deed Collected
collecting_in_turn old answer new = (more : ℕ) × collection_in_turn TRIES more old answer new

-- two arrays are made in a frame, and then a weak reference to the one and a global one to the other:
-- the words of the two references
abbrev pub preparing : Deed (ℕ × ℕ)
preparing = do
  push_local_frame 4
  lost ← new_array Long 4
  weak ← new_reference Weak lost.0
  array ← new_array Int 3
  set_array_region Int array.0 0 (10 ∷ 20 ∷ 30 ∷ [])
  global ← new_reference Global array.0
  pop_local_frame 0
  done (word_made weak, word_made global)

-- a collection is refused, and the next is made in its turn
abbrev pub collecting_twice : Deed ℕ
collecting_twice = do
  inside ← is_kept_out
  collecting_in_turn
  done inside

-- whether the weak reference is to null; and the type of the global one, once it is deleted
abbrev pub clearing : ℕ → ℕ → Deed (Bool × ℕ)
clearing weak global = do
  cleared ← is_same_object weak 0
  delete_reference Global global
  kind ← get_object_ref_type global
  done (cleared, kind)

-- THE FIRST THREAD does this
abbrev pub sharing : Deed Found
sharing = do
  words ← preparing
  inside ← collecting_twice
  found ← clearing words.0 words.1
  done (Shared inside found.0 found.1)

-- THE FIRST THREAD HAS PREPARED, with this word of the global reference, and it had seen this by then
abbrev pub HasPrepared : Config → ℕ → History → Type 0
HasPrepared sizes global seen = (weak : ℕ) × ComesOfDeed sizes 4294967295 0 preparing (weak, global) seen

-- WHAT A MESSAGE SAYS of what its thread had seen: that of the reference, that all this was done; and a turn nothing
abbrev pub message_says : Handed → Config → History → Type 0
message_says (Reference h) sizes seen = HasPrepared sizes h.0 seen
message_says Turn sizes seen = Unit {0}

-- the word of the first thread's global reference was handed over with a note, and the note was learned:
-- all that the first thread had seen by then is seen
abbrev pub is_handed : Deed ℕ
is_handed old answer new = (h : Handle) × (answer ≡ Ok h.0) × takes_over message_says old (Ok (Reference h)) new

-- a critical region is opened over the array that a word names: its object
abbrev pub opens_region : ℕ → Deed ℕ
opens_region w old answer new =
    (a : Word) × IsReadAs w a × within_by (λ c. 1) (λ c last t s.
    opened_by (get_array_critical 0) c last t s a) old answer new

-- an element of the array that a word names is read in a critical region: the element's word
abbrev pub reading_within : ℕ → Deed ℕ
reading_within global = do
  o ← opens_region global
  word ← within_by (λ c. 0) (λ c last t s. at_object c last t s o (region_get Int 1))
  within_by (λ c. 0) (λ c last t s. region_release 1)
  done word

-- two objects are made in a frame
abbrev pub making_own : Deed (Unit {0})
making_own = do
  push_local_frame 4
  object ← new_plain
  new_object_array 2 object.0
  pop_local_frame 0
  done tt

-- THE SECOND THREAD is handed the global reference's word, and makes two objects in a frame;
-- and it reads an element of the array that the word names
abbrev pub visiting : Deed Found
visiting = do
  global ← is_handed
  making_own
  word ← reading_within global
  done (Visited (signed_of w32 word))

-- what the thread of a number does
abbrev pub story : ℕ → Deed Found
story zero = sharing
story (suc t) = visiting

-- and answers, if no call was refused
abbrev pub story_of : ℕ → Deed (Result Found Fault)
story_of t = replied (story t)

-- no call was refused
abbrev pub has_found : Result Found Fault → Bool
has_found (Ok x) = true
has_found (Err e) = false
