-- THE PROGRAMS OF THE CALLS: what each call of JNI does within its stay, and each call at an object of a region.
use Rattle.std.specs.Prelude.{◌≡◌, ◌+◌, ◌==◌, ℕ, Bool, true, not, nat_lt, nat_le, None, Some, List, [], ◌∷◌, length}
use Rattle.std.proofs.Common.{refl}
use Rattle.jr_word.specs.declared.fault.Fault.{Fault}
use Rattle.jr_word.specs.declared.fault.Fault.TheVariants.{NotArray, Range, Size, WrongElement, WrongKind}
use Rattle.jr_word.specs.declared.handle.RefKind.{RefKind}
use Rattle.jr_word.specs.declared.kind.Kind.{Kind}
use Rattle.jr_word.specs.declared.kind.Kind.TheVariants.{Plain, Objects, Text}
use Rattle.jr_model.specs.declared.frames.TheConstants.{LEVELS}
use Rattle.jr_model.specs.Checks.{is_array, is_objects, is_primitive, is_read_as, is_text, same_element}
use Rattle.jr_model.specs.Tests.{Tests, is_silent}
use Rattle.jr_model.specs.Programs.{AnswerKind, nothing, truth, number, object, object_kind, handle, perhaps, several}
use Rattle.jr_model.specs.Programs.{one, other, Program, ends, names, names_both, wants, looks}
use Rattle.jr_model.specs.Programs.{tests, finds, gives_kind, gives_number, gives_object}
use Rattle.jr_model.specs.Programs.{compares, types, creates, refers, deletes, deletes_local, asks_room, pushes}
use Rattle.jr_model.specs.Programs.{pops_to}
use Rattle.jr_model.specs.Programs.{frees, makes, fills, reads, reads_from, copies, writes, writes_to, writes_from}

-- REFERENCES AND FRAMES

-- NewGlobalRef and NewWeakGlobalRef
abbrev pub new_reference : RefKind → Program 0 (perhaps handle)
new_reference k = names one (ends (creates k one))

-- NewLocalRef
abbrev pub new_local_ref : Program 0 (perhaps handle)
new_local_ref = names one (ends (refers one))

-- DeleteGlobalRef and DeleteWeakGlobalRef
abbrev pub delete_reference : RefKind → Program 0 nothing
delete_reference k = ends (deletes k one)

-- DeleteLocalRef
abbrev pub delete_local_ref : Program 0 nothing
delete_local_ref = ends (deletes_local one)

-- IsSameObject
abbrev pub is_same_object : Program 0 truth
is_same_object = names_both (ends compares)

-- GetObjectRefType
abbrev pub get_object_ref_type : Program 0 number
get_object_ref_type = ends (types one)

-- EnsureLocalCapacity, which enters no gate
abbrev pub ensure_local_capacity : ℕ → Program 0 nothing
ensure_local_capacity n = ends (asks_room n)

-- PushLocalFrame, which enters no gate
abbrev pub push_local_frame : ℕ → Program 0 nothing
push_local_frame n = ends (pushes n)

-- PopLocalFrame
abbrev pub pop_local_frame : Program 0 (perhaps handle)
pop_local_frame = ends (pops_to one)

-- at the end of a native method
abbrev pub free_locals : Program 0 nothing
free_locals = ends frees

-- NEW OBJECTS

-- a new object without elements
abbrev pub new_plain : Program 0 handle
new_plain = ends (makes Plain [])

-- NewBooleanArray and its like: n zeros
abbrev pub new_array : Kind → (n : ℕ) → Program n handle
new_array k n = ends (fills k n None)

-- NewObjectArray: n times the initial element
abbrev pub new_object_array : (n : ℕ) → Program n handle
new_object_array n = names one (ends (fills Objects n (Some one)))

-- NewString
abbrev pub new_string : (units : List ℕ) → Program (length units) handle
new_string units = ends (makes Text units)

-- OBJECTS

-- what follows for the object of the first reference, by its kind and its length
abbrev pub at_wanted : {n : ℕ} {a : AnswerKind} → (Kind → ℕ → Program n a) → Program n a
at_wanted next = names one (wants one (looks next))

-- the kind of an object
abbrev pub kind_of : Program 0 object_kind
kind_of = at_wanted (λ k n. ends (gives_kind k))

-- the length of an object whose kind passes the test
abbrev pub length_reading : (Kind → Bool) → (e : Fault) → is_silent e ≡ true → Program 0 number
length_reading test e silent = at_wanted (λ k n. tests ((not (test k), e) ∷ []) (silent, tt) (ends (gives_number n)))

-- GetArrayLength
abbrev pub get_array_length : Program 0 number
get_array_length = length_reading is_array NotArray refl

-- GetStringLength
abbrev pub get_string_length : Program 0 number
get_string_length = length_reading is_text WrongKind refl

-- it is an array of objects that has the index
abbrev pub element_tests : ℕ → Kind → ℕ → Tests
element_tests i k n = (not (is_array k), NotArray) ∷ (not (is_objects k), WrongElement) ∷ (nat_le n i, Range) ∷ []

-- GetObjectArrayElement
abbrev pub get_object_array_element : ℕ → Program 0 (perhaps handle)
get_object_array_element i =
    at_wanted (λ k n. tests (element_tests i k n) (refl, (refl, (refl, tt))) (finds i (ends (refers one))))

-- SetObjectArrayElement
abbrev pub set_object_array_element : ℕ → Program 0 nothing
set_object_array_element i = names_both (wants one (looks (λ k n.
    tests (element_tests i k n) (refl, (refl, (refl, tt))) (ends (writes_to i other)))))

-- it is an array of this element kind
abbrev pub kind_tests : Kind → Kind → Tests
kind_tests k l = (not (is_array l), NotArray) ∷ (not (same_element k l), WrongElement) ∷ []

-- .. in which the part lies
abbrev pub part_tests : Kind → ℕ → ℕ → Kind → ℕ → Tests
part_tests k start n l m =
    (not (is_array l), NotArray) ∷ (not (same_element k l), WrongElement) ∷ (nat_lt m (start + n), Range) ∷ []

-- GetBooleanArrayRegion and its like: n elements from start on
abbrev pub get_array_region : Kind → ℕ → ℕ → Program 0 (several number)
get_array_region k start n = at_wanted (λ l m.
    tests (part_tests k start n l m) (refl, (refl, (refl, tt))) (ends (reads_from start n)))

-- SetBooleanArrayRegion and its like
abbrev pub set_array_region : Kind → ℕ → List ℕ → Program 0 nothing
set_array_region k start vs = at_wanted (λ l m.
    tests (part_tests k start (length vs) l m) (refl, (refl, (refl, tt))) (ends (writes_from start vs)))

-- GetBooleanArrayElements and its like: a copy of all elements
abbrev pub get_array_elements : Kind → Program 0 (several number)
get_array_elements k = at_wanted (λ l n. tests (kind_tests k l) (refl, (refl, tt)) (ends (copies n)))

-- GetStringChars: a copy of all units
abbrev pub get_string_chars : Program 0 (several number)
get_string_chars = at_wanted (λ l n. tests ((not (is_text l), WrongKind) ∷ []) (refl, tt) (ends (copies n)))

-- ReleaseBooleanArrayElements and its like, where it doesn't abort: the buffer is copied back to the whole array
abbrev pub release_array_elements : Kind → List ℕ → Program 0 nothing
release_array_elements k buffer = at_wanted (λ l n. tests
    ((not (is_array l), NotArray) ∷ (not (same_element k l), WrongElement) ∷ (not (n == length buffer), Range) ∷ [])
    (refl, (refl, (refl, tt))) (ends (writes_from 0 buffer)))

-- REGIONS

-- GetPrimitiveArrayCritical: an array for a new level, where so many stand
abbrev pub get_array_critical : ℕ → Program 0 object
get_array_critical levels = at_wanted (λ k n. tests
    ((not (is_array k), NotArray) ∷ (not (is_primitive k), WrongElement) ∷ (nat_le LEVELS levels, Size) ∷ [])
    (refl, (refl, (refl, tt))) (ends gives_object))

-- GetStringCritical: a string for a new level
abbrev pub get_string_critical : ℕ → Program 0 object
get_string_critical levels = at_wanted (λ k n. tests
    ((not (is_text k), WrongKind) ∷ (nat_le LEVELS levels, Size) ∷ []) (refl, (refl, tt)) (ends gives_object))

-- AT AN OBJECT, as that of a level

-- its kind
abbrev pub region_kind : Program 0 object_kind
region_kind = looks (λ k n. ends (gives_kind k))

-- its length
abbrev pub region_length : Program 0 number
region_length = looks (λ k n. ends (gives_number n))

-- what a read of an element asks, as one of this kind
abbrev pub get_tests : Kind → ℕ → Kind → ℕ → Tests
get_tests k i l n = (not (is_read_as k l), WrongElement) ∷ (nat_le n i, Range) ∷ []

-- an element, as one of this kind
abbrev pub region_get : Kind → ℕ → Program 0 number
region_get k i = looks (λ l n. tests (get_tests k i l n) (refl, (refl, tt)) (ends (reads i)))

-- what a write of an element asks: a string is never written
abbrev pub set_tests : Kind → ℕ → Kind → ℕ → Tests
set_tests k i l n = (is_text l, NotArray) ∷ get_tests k i l n

-- an element is written, as one of this kind
abbrev pub region_set : Kind → ℕ → ℕ → Program 0 nothing
region_set k i v = looks (λ l n. tests (set_tests k i l n) (refl, (refl, (refl, tt))) (ends (writes i v)))
