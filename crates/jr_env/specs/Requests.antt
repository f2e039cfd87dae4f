-- What a call of native code asks for, with the words that it is handed: the same whether
-- it enters the gate and leaves it, or is made in a stay that goes on.
use Rattle.std.specs.Prelude.{◌+◌, ℕ, Bool, Option, Some, None, List, [], ◌∷◌, ◌++◌, length, codes}
use Rattle.jr_word.specs.declared.config.Config.{Config}
use Rattle.jr_word.specs.declared.handle.Handle.{Handle as HandleWord}
use Rattle.jr_word.specs.declared.handle.RefKind.{RefKind}
use Rattle.jr_word.specs.declared.handle.RefKind.TheVariants.{Local, Global, Weak}
use Rattle.jr_word.specs.Handle.{handle_word}
use Rattle.jr_word.specs.declared.kind.Kind.{Kind}
use Rattle.jr_word.specs.declared.kind.Kind.TheVariants.{Boolean, Byte, Char, Short, Int, Long}
use Rattle.jr_model.specs.State.{Handle}
use Rattle.jr_model.specs.Checks.{Word}
use Rattle.jr_model.specs.Programs.{AnswerKind, AnswerOf, Program, Which, at_both, ends, gives_object, handed_none}
use Rattle.jr_model.specs.Programs.{handed_one, names, object, one, wants}
use Rattle.jr_model.specs.CallPrograms as programs
use Rattle.jr_env.specs.declared.native_call.Handed.{Handed}
use Rattle.jr_env.specs.declared.native_call.Handed.TheVariants.{Nothing, One, Both, OneAt, BothAt}

-- the word of a handle, as native code holds it
abbrev pub packed : Handle → HandleWord
packed h = record { 0 = handle_word h }

abbrev pub packed_if : Option Handle → Option HandleWord
packed_if None = None
packed_if (Some h) = Some (packed h)

-- A REQUEST: it asks for a program with its references, in a stay, by at most so many operations beside its events; or
-- it goes on by what a word says that it is handed, or by what two say; or its answer is another's, in another form, or
-- kept in one from which that can be told; or it is another's, with a name
pub data Request : Type 0 → Type 1 where
  asks : {n : ℕ} {a : AnswerKind} → (Config → ℕ) → (Which → Word) → Program n a → Request (AnswerOf a)
  on_word : {A : Type 0} → ℕ → (Word → Request A) → Request A
  on_words : {A : Type 0} → ℕ → ℕ → (Word → Word → Request A) → Request A
  gives : {A B : Type 0} → (B → A) → Request B → Request A
  told_by : {A B : Type 0} → (A → B) → Request B → Request A
  named : {A : Type 0} → List ℕ → Request A → Request A

-- a request for a program with the reference that a word says, by at most so many operations beside its events
abbrev pub at_word : {n : ℕ} {a : AnswerKind} → (silent w : ℕ) → Program n a → Request (AnswerOf a)
at_word silent w p = on_word w (λ a. asks (λ c. silent) (handed_one a) p)

-- the words that a request reads as references before any of them says how it goes on, in their order:
-- what it reads by what they say is not among them
abbrev pub request_words : {A : Type 0} → Request A → List ℕ
request_words (asks silent words p) = []
request_words (on_word w next) = w ∷ []
request_words (on_words v w next) = v ∷ w ∷ []
request_words (gives form first) = request_words first
request_words (told_by form first) = request_words first
request_words (named name first) = request_words first

-- the name of a request, with no letter where it has none
abbrev pub request_name : {A : Type 0} → Request A → List ℕ
request_name (gives form first) = request_name first
request_name (told_by form first) = request_name first
request_name (named name first) = name
request_name _ = []

-- the words that a call hands in
abbrev pub handed_words : Handed → List ℕ
handed_words Nothing = []
handed_words (One h) = h.0 ∷ []
handed_words (Both g h) = g.0 ∷ h.0 ∷ []
handed_words (OneAt h s) = h.0 ∷ []
handed_words (BothAt g h s) = g.0 ∷ h.0 ∷ []

-- what a primitive type is called in the names of calls
abbrev pub type_name : Kind → List ℕ
type_name Boolean = codes "Boolean"
type_name Byte = codes "Byte"
type_name Char = codes "Char"
type_name Short = codes "Short"
type_name Int = codes "Int"
type_name Long = codes "Long"
type_name _ = codes "<PrimitiveType>"

-- a new array or string of n words may take a look at the top, a store
-- for each word and an exchange for each object number, beside its events
abbrev pub making_steps : ℕ → Config → ℕ
making_steps n c = 1 + n + c.objects

-- NewPlain:
-- a plain object and a local reference to it, with at most one operation for each object number beside its events
abbrev pub for_new_plain : Request HandleWord
for_new_plain = named (codes "NewPlain")
    (gives packed (asks (λ c. c.objects) handed_none programs.new_plain))

-- NewBooleanArray and its like: n zeros
abbrev pub for_new_array : Kind → ℕ → Request HandleWord
for_new_array kind n = named (codes "New" ++ type_name kind ++ codes "Array")
    (gives packed (asks (making_steps n) handed_none (programs.new_array kind n)))

-- NewObjectArray: n times what the word names
abbrev pub for_new_object_array : ℕ → ℕ → Request HandleWord
for_new_object_array n w = named (codes "NewObjectArray")
    (gives packed (on_word w (λ a. asks (making_steps n) (handed_one a) (programs.new_object_array n))))

-- NewString
abbrev pub for_new_string : List ℕ → Request HandleWord
for_new_string units = named (codes "NewString")
    (gives packed (asks (making_steps (length units)) handed_none (programs.new_string units)))

-- the names of the calls that make and delete a reference of a kind
abbrev pub new_name : RefKind → List ℕ
new_name Local = codes "NewLocalRef"
new_name Global = codes "NewGlobalRef"
new_name Weak = codes "NewWeakGlobalRef"

abbrev pub delete_name : RefKind → List ℕ
delete_name Local = codes "DeleteLocalRef"
delete_name Global = codes "DeleteGlobalRef"
delete_name Weak = codes "DeleteWeakGlobalRef"

-- NewGlobalRef, NewWeakGlobalRef
abbrev pub for_new_reference : RefKind → ℕ → Request (Option HandleWord)
for_new_reference kind w = named (new_name kind)
    (gives packed_if (at_word 0 w (programs.new_reference kind)))

-- NewLocalRef
abbrev pub for_new_local_ref : ℕ → Request (Option HandleWord)
for_new_local_ref w = named (codes "NewLocalRef")
    (gives packed_if (at_word 0 w programs.new_local_ref))

-- DeleteGlobalRef, DeleteWeakGlobalRef
abbrev pub for_delete_reference : RefKind → ℕ → Request (Unit {0})
for_delete_reference kind w = named (delete_name kind)
    (at_word 0 w (programs.delete_reference kind))

-- DeleteLocalRef
abbrev pub for_delete_local_ref : ℕ → Request (Unit {0})
for_delete_local_ref w = named (codes "DeleteLocalRef")
    (at_word 0 w programs.delete_local_ref)

-- IsSameObject
abbrev pub for_is_same_object : ℕ → ℕ → Request Bool
for_is_same_object v w = named (codes "IsSameObject")
    (on_words v w (λ a b. asks (λ c. 0) (at_both a b) programs.is_same_object))

-- GetObjectRefType
abbrev pub for_get_object_ref_type : ℕ → Request ℕ
for_get_object_ref_type w = named (codes "GetObjectRefType")
    (at_word 0 w programs.get_object_ref_type)

-- THE IDENTITY of an object is its number in the machine: the program that tells it, which looks at no header
abbrev pub identity_of : Program 0 object
identity_of = names one (wants one (ends gives_object))

-- the identity of what the word names
abbrev pub for_identity_of : ℕ → Request ℕ
for_identity_of w = named (codes "IdentityOf")
    (at_word 0 w identity_of)

-- PopLocalFrame
abbrev pub for_pop_local_frame : ℕ → Request (Option HandleWord)
for_pop_local_frame w = named (codes "PopLocalFrame")
    (gives packed_if (at_word 0 w programs.pop_local_frame))

-- all local references are freed, at the end of a native method
abbrev pub for_free_locals : Request (Unit {0})
for_free_locals = named (codes "FreeLocals")
    (asks (λ c. 0) handed_none programs.free_locals)

-- THE REQUESTS AT OBJECTS take one operation beside their events, the look at the header

-- the kind of what the word names
abbrev pub for_kind_of : ℕ → Request Kind
for_kind_of w = named (codes "KindOf")
    (at_word 1 w programs.kind_of)

-- GetArrayLength
abbrev pub for_get_array_length : ℕ → Request ℕ
for_get_array_length w = named (codes "GetArrayLength")
    (at_word 1 w programs.get_array_length)

-- GetStringLength
abbrev pub for_get_string_length : ℕ → Request ℕ
for_get_string_length w = named (codes "GetStringLength")
    (at_word 1 w programs.get_string_length)

-- GetObjectArrayElement
abbrev pub for_get_object_array_element : ℕ → ℕ → Request (Option HandleWord)
for_get_object_array_element w i = named (codes "GetObjectArrayElement")
    (gives packed_if (at_word 1 w (programs.get_object_array_element i)))

-- SetObjectArrayElement
abbrev pub for_set_object_array_element : ℕ → ℕ → ℕ → Request (Unit {0})
for_set_object_array_element v i w = named (codes "SetObjectArrayElement")
    (on_words v w (λ a b. asks (λ c. 1) (at_both a b) (programs.set_object_array_element i)))

-- GetBooleanArrayRegion and its like: the words of n elements from start on
abbrev pub for_get_array_region : Kind → ℕ → ℕ → ℕ → Request (List ℕ)
for_get_array_region kind w start n = named (codes "Get" ++ type_name kind ++ codes "ArrayRegion")
    (at_word 1 w (programs.get_array_region kind start n))

-- SetBooleanArrayRegion and its like
abbrev pub for_set_array_region : Kind → ℕ → ℕ → List ℕ → Request (Unit {0})
for_set_array_region kind w start vs = named (codes "Set" ++ type_name kind ++ codes "ArrayRegion")
    (at_word 1 w (programs.set_array_region kind start vs))

-- GetBooleanArrayElements and its like: the words of all elements
abbrev pub for_get_array_elements : Kind → ℕ → Request (List ℕ)
for_get_array_elements kind w = named (codes "Get" ++ type_name kind ++ codes "ArrayElements")
    (at_word 1 w (programs.get_array_elements kind))

-- GetStringChars: all units
abbrev pub for_get_string_chars : ℕ → Request (List ℕ)
for_get_string_chars w = named (codes "GetStringChars")
    (at_word 1 w programs.get_string_chars)

-- ReleaseBooleanArrayElements and its like, where it writes these words back
abbrev pub for_copy_back : Kind → ℕ → List ℕ → Request (Unit {0})
for_copy_back kind w vs = named (codes "Release" ++ type_name kind ++ codes "ArrayElements")
    (at_word 1 w (programs.release_array_elements kind vs))
