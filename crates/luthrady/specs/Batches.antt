-- What a list of calls in one stay did.
use Rattle.std.specs.Prelude.{◌≡◌, ◌≢◌, ℕ, List, [], ◌∷◌, Option, Some, None, Result, Ok, Err}
use Rattle.std.specs.Global.{Box}
use Rattle.jr_word.specs.declared.fault.Fault.{Fault}
use Rattle.jr_word.specs.declared.fault.Fault.TheVariants.{Range}
use Rattle.jr_word.specs.declared.handle.RefKind.TheVariants.{Global, Weak}
use Rattle.jr_steps.specs.declared.steps.Steps.{Ghosts}
use Rattle.jr_env.specs.declared.env.Env.{Env}
use Rattle.jr_env.specs.declared.stay.Stay.{Stay}
use Rattle.jr_env.specs.Requests.{Request, for_delete_local_ref, for_delete_reference, for_get_array_length}
use Rattle.jr_env.specs.Requests.{for_get_object_array_element, for_get_object_ref_type, for_get_string_length}
use Rattle.jr_env.specs.Requests.{for_is_same_object}
use Rattle.jr_env.specs.Requests.{for_new_local_ref, for_new_reference, for_set_object_array_element}
use Rattle.jr_env.specs.Deeds.{in_a_stay}
use Rattle.jr_env.specs.Envs.{IsOutside}
use Rattle.jr_env.specs.LentStays.{env_in, frames_in, held_in, DoesWithin, WasBarred, WasEntered}
use Rattle.jr_env.specs.OpenStays.{EndsAsOneStay, LeavesOver}
use Rattle.luthrady.specs.declared.batches.BatchCall.{BatchCall}
use Rattle.luthrady.specs.declared.batches.Operation.{Operation}
use Rattle.luthrady.specs.declared.batches.Operation.TheVariants as operation
use Rattle.luthrady.specs.declared.handles.EnvHandle.{EnvHandle}
use Rattle.luthrady.specs.declared.held.Native.{Native}
use Rattle.luthrady.specs.declared.reply.Reply.{Reply}
use Rattle.luthrady.specs.Places.{absence, native_behind}
use Rattle.luthrady.specs.Replies.{reply_of, nothing_told, the_number, word_or_null, zero_or_one}

-- the number of a call
abbrev pub operation_number : Operation → ℕ
operation_number operation.NewGlobalRef = 1
operation_number operation.NewWeakGlobalRef = 2
operation_number operation.NewLocalRef = 3
operation_number operation.DeleteGlobalRef = 4
operation_number operation.DeleteWeakGlobalRef = 5
operation_number operation.DeleteLocalRef = 6
operation_number operation.IsSameObject = 7
operation_number operation.GetObjectRefType = 8
operation_number operation.GetArrayLength = 9
operation_number operation.GetStringLength = 10
operation_number operation.GetObjectArrayElement = 11
operation_number operation.SetObjectArrayElement = 12

-- the call whose number this is, or none where none has it
abbrev pub IsNumber : ℕ → Option Operation → Type 0
IsNumber n (Some o) = n ≡ operation_number o
IsNumber n None = (o : Operation) → n ≢ operation_number o

module _ {S : Type 0} {G : Ghosts S} where
  -- what is requested was done in the stay, with an answer that the reply tells
  abbrev pub RepliedWithin : {A : Type 0} → (A → ℕ) → Stay S G → Stay S G → Request A → Reply → Type 0
  RepliedWithin {A} word old new request reply =
      (answer : Result A Fault) × (reply ≡ reply_of word answer) × DoesWithin old new (in_a_stay request) answer

  -- this call of the stay was made; where none has the number it is E7, and all is as it was
  abbrev pub MadeAs : Option Operation → Stay S G → Stay S G → BatchCall → Reply → Type 0
  MadeAs (Some operation.NewGlobalRef) old new c r = RepliedWithin word_or_null old new
      (for_new_reference Global c.first) r
  MadeAs (Some operation.NewWeakGlobalRef) old new c r =
      RepliedWithin word_or_null old new (for_new_reference Weak c.first) r
  MadeAs (Some operation.NewLocalRef) old new c r = RepliedWithin word_or_null old new (for_new_local_ref c.first) r
  MadeAs (Some operation.DeleteGlobalRef) old new c r =
      RepliedWithin nothing_told old new (for_delete_reference Global c.first) r
  MadeAs (Some operation.DeleteWeakGlobalRef) old new c r =
      RepliedWithin nothing_told old new (for_delete_reference Weak c.first) r
  MadeAs (Some operation.DeleteLocalRef) old new c r = RepliedWithin nothing_told old new
      (for_delete_local_ref c.first) r
  MadeAs (Some operation.IsSameObject) old new c r =
      RepliedWithin zero_or_one old new (for_is_same_object c.first c.second) r
  MadeAs (Some operation.GetObjectRefType) old new c r =
      RepliedWithin the_number old new (for_get_object_ref_type c.first) r
  MadeAs (Some operation.GetArrayLength) old new c r = RepliedWithin the_number old new (for_get_array_length c.first) r
  MadeAs (Some operation.GetStringLength) old new c r = RepliedWithin the_number old new
      (for_get_string_length c.first) r
  MadeAs (Some operation.GetObjectArrayElement) old new c r =
      RepliedWithin word_or_null old new (for_get_object_array_element c.first c.index) r
  MadeAs (Some operation.SetObjectArrayElement) old new c r =
      RepliedWithin nothing_told old new (for_set_object_array_element c.first c.index c.second) r
  MadeAs None old new c r = (r ≡ reply_of nothing_told (Err Range)) × (new ≡ old)

  -- A CALL WAS MADE in the stay, by its number
  abbrev pub WasMadeInStay : Stay S G → Stay S G → BatchCall → Reply → Type 0
  WasMadeInStay old new c r = (o : Option Operation) × IsNumber c.operation o × MadeAs o old new c r

  -- THE CALLS WERE MADE in the stay, one after the other, and each has its answer
  abbrev pub AreMade : Stay S G → Stay S G → List BatchCall → List BatchCall → Type 0
  AreMade old new [] after = (after ≡ []) × (new ≡ old)
  AreMade old new (c ∷ cs) after = (mid : Stay S G) × (r : Reply) × (rest : List BatchCall)
      × (after ≡ record c { reply = r } ∷ rest) × WasMadeInStay old mid c r × AreMade mid new cs rest

  -- THE CALLS WERE MADE IN ONE STAY, between an entry and an exit; or none was entered (E13), and none was made
  abbrev pub WasStayed : Env S G → Env S G → List BatchCall → List BatchCall → Result (Unit {0}) Fault → Type 0
  WasStayed old new cs after (Ok u) = (first last : Stay S G) × WasEntered old (env_in first).now
      × AreMade first last cs after
      × LeavesOver (held_in last) new.held × EndsAsOneStay (held_in last) new.held
      × (new.held.frames ≡ frames_in last) × IsOutside new
  WasStayed old new cs after (Err e) = WasBarred old new e × (after ≡ cs)

-- the env that was ready there did, and still is, with the marker as it was;
-- where none was ready, it is E21 or E19 (`absence`), no call is made, and nothing has changed
abbrev pub ByThreadInStay : EnvHandle → EnvHandle → Option (Box Native) → List BatchCall → List BatchCall
    → Result (Unit {0}) Fault → Type 0
ByThreadInStay old new None cs after answer = (answer ≡ Err (absence old)) × (new ≡ old) × (after ≡ cs)
ByThreadInStay old new (Some n) cs after answer = (m : Box Native) × (native_behind new ≡ Some m)
    × WasStayed n.value.env m.value.env cs after answer × (m.value.marker ≡ n.value.marker)

-- the batch was made by the env behind the handle, with this answer; the handle points where it did
abbrev pub WasBatched : EnvHandle → EnvHandle → List BatchCall → List BatchCall → Result (Unit {0}) Fault → Type 0
WasBatched old new cs after answer =
    (new.at ≡ old.at) × ByThreadInStay old new (native_behind old) cs after answer

-- THE BATCH WAS MADE, with an answer that the reply tells
abbrev pub BatchReplied : EnvHandle → EnvHandle → List BatchCall → List BatchCall → Reply → Type 0
BatchReplied old new cs after reply = (answer : Result (Unit {0}) Fault) × (reply ≡ reply_of nothing_told answer)
    × WasBatched old new cs after answer
