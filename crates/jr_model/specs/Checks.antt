-- What calls ask of a reference that is handed in, and of a kind.
use Rattle.std.specs.Prelude.{◌==◌, ◌&&◌, ◌^◌, ℕ, zero, suc, Bool, true, false, not, cond, nat_lt, Option, Some, None}
use Rattle.jr_word.specs.declared.config.Config.{Config}
use Rattle.jr_word.specs.declared.handle.RefKind.{RefKind}
use Rattle.jr_word.specs.declared.handle.RefKind.TheVariants.{Local, Global, Weak}
use Rattle.jr_word.specs.declared.kind.Kind.{Kind}
use Rattle.jr_word.specs.declared.kind.Kind.TheVariants.{Plain, Boolean, Byte, Char, Short, Int, Long, Objects, Text}
use Rattle.jr_model.specs.declared.event.Found.{Found}
use Rattle.jr_model.specs.declared.event.Found.TheVariants.{Stale}
use Rattle.jr_model.specs.State.{Handle, same_kind}

-- what a caller hands in as a reference: NULL, a word that is no handle, or a handle
pub data Word : Type 0 where
  Nothing : Word
  Malformed : Word
  Parts : Handle → Word

-- it is neither NULL nor a handle
abbrev pub is_malformed : Word → Bool
is_malformed Malformed = true
is_malformed _ = false

-- it is NULL, or a reference of the kind
abbrev pub is_of_kind : RefKind → Word → Bool
is_of_kind k (Parts h) = same_kind k h.kind
is_of_kind k _ = true

-- it is the handle of a local reference
abbrev pub is_local : Handle → Bool
is_local h = same_kind Local h.kind

-- its index is past the row, or its place or its owner past those of the room
abbrev pub is_out_of_bounds : Config → Word → Bool
is_out_of_bounds c (Parts h) =
    cond (is_local h) (not (nat_lt h.index c.locals && nat_lt h.owner c.threads)) (not (nat_lt h.index c.slots))
is_out_of_bounds c _ = false

-- it is a local reference of another thread
abbrev pub is_foreign : ℕ → Word → Bool
is_foreign thread (Parts h) = is_local h && not (h.owner == thread)
is_foreign thread _ = false

-- both to one object, or both to none
abbrev pub same_object : Option ℕ → Option ℕ → Bool
same_object None None = true
same_object (Some o) (Some p) = o == p
same_object _ _ = false

-- the number of a reference's kind, as JNI gives it
abbrev pub kind_number : RefKind → ℕ
kind_number Local = 1
kind_number Global = 2
kind_number Weak = 3

-- the type of a global or weak reference: its kind where it stands, be it cleared, and else 0
abbrev pub type_found : RefKind → Found → ℕ
type_found k Stale = 0
type_found k _ = kind_number k

-- the type of a local reference: 1 where it stands, and else 0
abbrev pub type_local : Option ℕ → ℕ
type_local None = 0
type_local (Some o) = 1

-- the element of an object array that names the object, 0 for none
abbrev pub element_word : Option ℕ → ℕ
element_word None = 0
element_word (Some o) = o

-- the object that an element of an object array names
abbrev pub object_of_word : ℕ → Option ℕ
object_of_word zero = None
object_of_word (suc n) = Some (suc n)

-- an array: neither plain nor a string
abbrev pub is_array : Kind → Bool
is_array Plain = false
is_array Text = false
is_array _ = true

-- an array of objects
abbrev pub is_objects : Kind → Bool
is_objects Objects = true
is_objects _ = false

-- a string
abbrev pub is_text : Kind → Bool
is_text Text = true
is_text _ = false

-- an object without elements
abbrev pub is_plain : Kind → Bool
is_plain Plain = true
is_plain _ = false

-- an array of elements that are no objects
abbrev pub is_primitive : Kind → Bool
is_primitive k = is_array k && not (is_objects k)

-- both are one kind of array whose elements are no objects
abbrev pub same_element : Kind → Kind → Bool
same_element Boolean Boolean = true
same_element Byte Byte = true
same_element Char Char = true
same_element Short Short = true
same_element Int Int = true
same_element Long Long = true
same_element _ _ = false

-- in a critical region the elements of an object of kind l are of kind k; the units of a string are chars
abbrev pub is_read_as : Kind → Kind → Bool
is_read_as Char Text = true
is_read_as k l = same_element k l

-- the word is an element of the kind; of which object array, the caller shows
abbrev pub is_value : Kind → ℕ → Bool
is_value Plain v = false
is_value Boolean v = nat_lt v 2
is_value Byte v = nat_lt v (2 ^ 8)
is_value Char v = nat_lt v (2 ^ 16)
is_value Short v = nat_lt v (2 ^ 16)
is_value Int v = nat_lt v (2 ^ 32)
is_value Long v = nat_lt v (2 ^ 64)
is_value Objects v = true
is_value Text v = nat_lt v (2 ^ 16)
