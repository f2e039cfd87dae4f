-- What the calls of an env do, from one moment of its pass and frames to another.
use Rattle.std.specs.Prelude.{◌≡◌, ◌≢◌, ◌⊎◌, ℕ, Bool, Option, Some, None, Result, Ok, Err, List}
use Rattle.jr_word.specs.declared.handle.RefKind.{RefKind}
use Rattle.jr_word.specs.declared.kind.Kind.{Kind}
use Rattle.jr_word.specs.declared.handle.Handle.{Handle as HandleWord}
use Rattle.jr_word.specs.declared.config.Config.{Config}
use Rattle.jr_word.specs.declared.fault.Fault.{Fault}
use Rattle.jr_model.specs.declared.event.Role.{Role}
use Rattle.jr_model.specs.declared.event.Role.TheVariants.{Outside}
use Rattle.jr_model.specs.declared.frames.Mode.{Mode}
use Rattle.jr_model.specs.declared.frames.Mode.TheVariants.{Copy, Commit, Abort}
use Rattle.jr_model.specs.State.{State}
use Rattle.jr_model.specs.History.{state}
use Rattle.jr_model.specs.Frames.{Frames}
use Rattle.jr_model.specs.Calls.{Call, entered}
use Rattle.jr_model.specs.Checks.{Word}
use Rattle.jr_model.specs.Parts.{leave}
use Rattle.jr_model.specs.Programs.{AnswerKind, AnswerOf, Program, handed_one, work_of}
use Rattle.jr_model.specs.CallPrograms as programs
use Rattle.jr_model.specs.AllCalls.{keeps, means, stays_out}
use Rattle.jr_steps.specs.declared.known.Known.{Known}
use Rattle.jr_steps.specs.Holdings.{empty}
use Rattle.jr_steps.specs.Knowing.{Facts, Leads, Holds}
use Rattle.jr_frames.specs.Reading.{IsReadAs}
use Rattle.jr_gate.specs.Performing.{IsAsBefore, ThreadState, thread_state, IsMade}
use Rattle.jr_elements.specs.Copies.{answer_in}
use Rattle.jr_env.specs.Requests.{Request, asks, gives, named, on_word, on_words, told_by}
use Rattle.jr_env.specs.Requests as requests

-- from an old moment this answer and the new moment may come
abbrev pub Deed : Type 0 → Type 1
Deed A = ThreadState → Result A Fault → ThreadState → Type 0

-- a call of the env: its events, and the answer that it may have;
-- it takes one operation for each event, and at most so many more; and afterwards the thread holds nothing
abbrev pub call_by : {A : Type 0} → (Config → ℕ) → (Config → ℕ → ℕ → State → Call A) → Deed A
call_by silent asked old answer new = IsMade (silent old.pass.config) old new
    (asked old.pass.config old.pass.last old.pass.thread (state new.pass.seen)) answer × (new.held ≡ empty)

-- a call that takes no operation but its events
abbrev pub call : {A : Type 0} → (Config → ℕ → ℕ → State → Call A) → Deed A
call asked = call_by (λ c. 0) asked

-- a call that enters no gate: it takes no operation and sees nothing, and but for the frames all is as it was
abbrev pub call_apart : {n : ℕ} {a : AnswerKind} → Program n a → Deed (AnswerOf a)
call_apart p old answer new = IsMade 0 old new
    (means old.pass.config old.pass.last old.pass.thread (state new.pass.seen) (stays_out p)) answer
    × (new ≡ record old { frames = new.frames })

-- work in a stay that goes on: its events, and the answer that it may have;
-- it takes one operation for each event, and at most so many more
abbrev pub within_by : {A : Type 0} → (Config → ℕ) → (Config → ℕ → ℕ → State → Call A) → Deed A
within_by silent asked old answer new = IsMade (silent old.pass.config) old new
    (asked old.pass.config old.pass.last old.pass.thread (state new.pass.seen)) answer

-- a call that is handed a reference word, and takes at most so many operations beside its events
abbrev pub call_on_by : {A : Type 0} → (Config → ℕ) → ℕ → (Config → ℕ → ℕ → State → Word → Call A) → Deed A
call_on_by silent w asked old answer new =
    (a : Word) × IsReadAs w a × call_by silent (λ c last t s. asked c last t s a) old answer new

-- an answer, with no event
abbrev pub done : {A : Type 0} → A → Deed A
done x old answer new = (answer ≡ Ok x) × (new ≡ old)

-- a refusal or an answer that is decided without an event
abbrev pub decided : {A : Type 0} → Result A Fault → Deed A
decided r old answer new = (answer ≡ r) × (new ≡ old)

infixl 1 ◌>>=◌
infixl 1 ◌>>◌
-- one and then the other; a refusal ends the deed
abbrev pub ◌>>=◌ : {A B : Type 0} → Deed A → (A → Deed B) → Deed B
◌>>=◌ {A} first next old answer new =
    ((x : A) × (mid : ThreadState) × first old (Ok x) mid × next x mid answer new)
    ⊎ ((e : Fault) × (answer ≡ Err e) × first old (Err e) new)

abbrev pub ◌>>◌ : {A B : Type 0} → Deed A → Deed B → Deed B
◌>>◌ first next = first >>= (λ _. next)

-- the answer of a deed, in another form
abbrev pub answered_by : {A B : Type 0} → (A → B) → Deed A → Deed B
answered_by f first = first >>= (λ x. done (f x))

-- the exit from a stay that a region left, and then this
abbrev pub after_exit : {A : Type 0} → Deed A → Deed A
after_exit deed old answer new = (mid : ThreadState) × call (λ c last t s. leave) old (Ok tt) mid × deed mid answer new

-- how the work of a request becomes a deed, by the operations that it may take beside its events
abbrev pub How : Type 1
How = (A : Type 0) → (Config → ℕ) → (Config → ℕ → ℕ → State → Call A) → Deed A

-- the deed of a request, by how its work becomes one
abbrev pub deed_of : {A : Type 0} → How → Request A → Deed A
deed_of how (asks silent words p) = how _ silent (λ c last t s. work_of c last t s words p)
deed_of how (on_word w next) = λ old answer new. (a : Word) × IsReadAs w a × deed_of how (next a) old answer new
deed_of how (on_words v w next) =
    λ old answer new. (a b : Word) × IsReadAs v a × IsReadAs w b × deed_of how (next a b) old answer new
deed_of how (gives form first) = answered_by form (deed_of how first)
deed_of how (told_by form first) = λ old answer new. deed_of how first old (answer_in form answer) new
deed_of how (named name first) = deed_of how first

-- A WHOLE CALL of what is requested: the work in a stay of its own, or the gate is shut
abbrev pub whole : {A : Type 0} → Request A → Deed A
whole = deed_of (λ A silent work. call_by silent (λ c last t s. entered (work c last t s)))

-- THE SAME IN A STAY that goes on: no entry and no exit
abbrev pub in_a_stay : {A : Type 0} → Request A → Deed A
in_a_stay = deed_of (λ A silent work. within_by silent work)

-- NewPlain:
-- a plain object and a local reference to it, with at most one operation for each object number beside its events
abbrev pub new_plain : Deed HandleWord
new_plain = whole requests.for_new_plain

-- NewBooleanArray and its like: n zeros
abbrev pub new_array : Kind → ℕ → Deed HandleWord
new_array kind n = whole (requests.for_new_array kind n)

-- NewObjectArray: n times what the word names
abbrev pub new_object_array : ℕ → ℕ → Deed HandleWord
new_object_array n w = whole (requests.for_new_object_array n w)

-- NewString
abbrev pub new_string : List ℕ → Deed HandleWord
new_string units = whole (requests.for_new_string units)

-- NewGlobalRef, NewWeakGlobalRef
abbrev pub new_reference : RefKind → ℕ → Deed (Option HandleWord)
new_reference kind w = whole (requests.for_new_reference kind w)

-- NewLocalRef
abbrev pub new_local_ref : ℕ → Deed (Option HandleWord)
new_local_ref w = whole (requests.for_new_local_ref w)

-- DeleteGlobalRef, DeleteWeakGlobalRef
abbrev pub delete_reference : RefKind → ℕ → Deed (Unit {0})
delete_reference kind w = whole (requests.for_delete_reference kind w)

-- DeleteLocalRef
abbrev pub delete_local_ref : ℕ → Deed (Unit {0})
delete_local_ref w = whole (requests.for_delete_local_ref w)

-- IsSameObject
abbrev pub is_same_object : ℕ → ℕ → Deed Bool
is_same_object v w = whole (requests.for_is_same_object v w)

-- GetObjectRefType
abbrev pub get_object_ref_type : ℕ → Deed ℕ
get_object_ref_type w = whole (requests.for_get_object_ref_type w)

-- EnsureLocalCapacity
abbrev pub ensure_local_capacity : ℕ → Deed (Unit {0})
ensure_local_capacity n = call_apart (programs.ensure_local_capacity n)

-- PushLocalFrame
abbrev pub push_local_frame : ℕ → Deed (Unit {0})
push_local_frame n = call_apart (programs.push_local_frame n)

-- PopLocalFrame
abbrev pub pop_local_frame : ℕ → Deed (Option HandleWord)
pop_local_frame w = whole (requests.for_pop_local_frame w)

-- the kind of what the word names
abbrev pub kind_of : ℕ → Deed Kind
kind_of w = whole (requests.for_kind_of w)

-- GetArrayLength
abbrev pub get_array_length : ℕ → Deed ℕ
get_array_length w = whole (requests.for_get_array_length w)

-- GetStringLength
abbrev pub get_string_length : ℕ → Deed ℕ
get_string_length w = whole (requests.for_get_string_length w)

-- GetObjectArrayElement
abbrev pub get_object_array_element : ℕ → ℕ → Deed (Option HandleWord)
get_object_array_element w i = whole (requests.for_get_object_array_element w i)

-- SetObjectArrayElement
abbrev pub set_object_array_element : ℕ → ℕ → ℕ → Deed (Unit {0})
set_object_array_element v i w = whole (requests.for_set_object_array_element v i w)

-- GetBooleanArrayRegion and its like: the words of n elements from start on
abbrev pub get_array_region : Kind → ℕ → ℕ → ℕ → Deed (List ℕ)
get_array_region kind w start n = whole (requests.for_get_array_region kind w start n)

-- the answer of a call that reads words into a buffer: the words, or its refusal
abbrev pub read_answer : Result (Unit {0}) Fault → List ℕ → Result (List ℕ) Fault
read_answer (Ok _) ws = Ok ws
read_answer (Err e) ws = Err e

-- SetBooleanArrayRegion and its like
abbrev pub set_array_region : Kind → ℕ → ℕ → List ℕ → Deed (Unit {0})
set_array_region kind w start vs = whole (requests.for_set_array_region kind w start vs)

-- GetBooleanArrayElements and its like: the words of all elements
abbrev pub get_array_elements : Kind → ℕ → Deed (List ℕ)
get_array_elements kind w = whole (requests.for_get_array_elements kind w)

-- GetStringChars: all units
abbrev pub get_string_chars : ℕ → Deed (List ℕ)
get_string_chars w = whole (requests.for_get_string_chars w)

-- ReleaseBooleanArrayElements and its like, of elements with these words: the words of those that are
-- kept, if they are. To abort looks at no reference, takes no operation, sees nothing, and changes nothing
abbrev pub release_array_elements : Kind → ℕ → List ℕ → Mode → Deed (Option (List ℕ))
release_array_elements kind w vs Copy = call_on_by (λ c. 1) w (λ c last t s a.
    means c last t s (keeps None (handed_one a) (programs.release_array_elements kind vs)))
release_array_elements kind w vs Commit = call_on_by (λ c. 1) w (λ c last t s a.
    means c last t s (keeps (Some vs) (handed_one a) (programs.release_array_elements kind vs)))
release_array_elements kind w vs Abort = done None

-- the same in a stay
abbrev pub release_within : Kind → ℕ → List ℕ → Mode → Deed (Option (List ℕ))
release_within kind w vs Copy = answered_by (λ u. None) (in_a_stay (requests.for_copy_back kind w vs))
release_within kind w vs Commit = answered_by (λ u. Some vs) (in_a_stay (requests.for_copy_back kind w vs))
release_within kind w vs Abort = done None

-- the answer of a release, by the words of the elements that are kept; a refusal hands elements back beside it
abbrev pub release_answer : {A : Type 0} → (A → List ℕ) → Result (Option A) (A × Fault) → Result (Option (List ℕ)) Fault
release_answer words (Ok None) = Ok None
release_answer words (Ok (Some x)) = Ok (Some (words x))
release_answer words (Err r) = Err r.1

-- all local references are freed, at the end of a native method
abbrev pub free_locals : Deed (Unit {0})
free_locals = whole requests.for_free_locals

module _ {S : Type 0} (facts : S → Facts) where
  -- THE DEED WAS DONE, with this answer: for whatever was known and met the condition, something is
  -- known that it led to and that shows the other; and afterwards the thread has the role. A call, one
  -- in a stay, a region's opening, a collection, a script's command: each is this, of its own deed
  pub record CarriedOut {A : Type 0} (old new : S) (before after : Frames) (role : Role) (met shown : Known → Type 0)
      (deed : Deed A) (answer : Result A Fault) : Type 0 where
    pub stands_is : IsAsBefore (record ((facts old).stands) { role = role }) (facts new).stands
    pub did : Leads facts old new met (λ k k'. shown k') (λ k k'.
        deed (thread_state (facts old) k before) answer (thread_state (facts new) k' after))

  -- the same, where the thread keeps its role and nothing but its frames is told of
  abbrev pub DoesDeed : {A : Type 0} → S → S → Frames → Frames → Deed A → Result A Fault → Type 0
  DoesDeed old new before after deed answer =
      CarriedOut old new before after (facts old).stands.role (Holds before) (Holds after) deed answer

  -- so was a call's, where the thread stood outside; where it stood in a stay that a region left,
  -- its exit was made, and then the call's deed; and afterwards it stands outside in any case
  pub record DoesOutside {A : Type 0} (old new : S) (before after : Frames) (deed : Deed A)
      (answer : Result A Fault) : Type 0 where
    pub does : (facts old).stands.role ≡ Outside
        → CarriedOut old new before after (facts old).stands.role (Holds before) (Holds after) deed answer
    pub left : (facts old).stands.role ≢ Outside
        → CarriedOut old new before after Outside (Holds before) (Holds after) (after_exit deed) answer
    pub outside : (facts new).stands.role ≡ Outside
