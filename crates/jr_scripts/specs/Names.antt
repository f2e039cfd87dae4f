-- What the names of a thread stand for.
use Rattle.std.specs.Prelude.{◌≡◌, ◌⊎◌, ℕ, ℤ, Option, Some, None, IsSome, List, Result, Ok, Err, refl}
use mathlib.Core.Logic.{inl, inr}
use Rattle.std.specs.declared.cmp.Ordering.{Ordering}
use Rattle.std.specs.Ordering.{nat_cmp}
use Rattle.std.specs.Cmp.Lexicographic.{slice_cmp}
use Rattle.std.specs.Coded.{Coded, code_by, coded_option, coded_ℕ, coded⊎}
use Rattle.std.specs.FinMap.{FinMap, empty, get, insert}
use Rattle.jr_word.specs.declared.fault.Fault.{Fault}
use Rattle.jr_word.specs.declared.fault.Fault.TheVariants as fault
use Rattle.jr_word.specs.declared.handle.Handle.{Handle}
use Rattle.jr_syntax.specs.declared.name.Reference.{Reference}
use Rattle.jr_syntax.specs.declared.name.Reference.TheVariants as refers
use Rattle.jr_scripts.specs.declared.buffer.CopiedElements.{CopiedElements}
use Rattle.jr_scripts.specs.Buffers.{Copied, coded_copied, copied_in, number_in, with_number}
use Rattle.jr_scripts.specs.declared.binding.Binding.{Binding}
use Rattle.jr_scripts.specs.declared.binding.Binding.TheVariants as bound

-- names are in the order of their bytes
abbrev pub name_order : List ℕ → List ℕ → Ordering
name_order = slice_cmp nat_cmp

-- a handle as a number
abbrev pub coded_handle : Coded Handle
coded_handle = code_by ℕ coded_ℕ (λ h. h.0) (λ n. record { 0 = n }) (λ _. refl)

-- what a name stands for as a reference, copied elements, or none of both
abbrev binding_parts : Binding → Option (Handle ⊎ Copied)
binding_parts bound.Nothing = None
binding_parts (bound.Reference h) = Some (inl h)
binding_parts (bound.Buffer b) = Some (inr b)

abbrev binding_of_parts : Option (Handle ⊎ Copied) → Binding
binding_of_parts None = bound.Nothing
binding_of_parts (Some (inl h)) = bound.Reference h
binding_of_parts (Some (inr b)) = bound.Buffer b

-- what a name stands for is told by its parts
pub binding_back : (s : Binding) → binding_of_parts (binding_parts s) ≡ s
binding_back bound.Nothing = refl
binding_back (bound.Reference h) = refl
binding_back (bound.Buffer b) = refl

-- what a name stands for as numbers
abbrev pub coded_binding : Coded Binding
coded_binding = code_by (Option (Handle ⊎ Copied)) (coded_option (coded⊎ coded_handle coded_copied)) binding_parts
    binding_of_parts binding_back

-- what names stand for: a map from each name that was set to what it was set to last
abbrev pub Names : Type 0
Names = FinMap name_order Binding

-- before the first command no name stands for anything
abbrev pub no_names : Names
no_names = empty

-- a name was set, whether it stands for something or no more
abbrev pub IsSet : Names → List ℕ → Type 0
IsSet names n = IsSome (get names n)

-- what a name that was set stands for, nothing for one that never was
abbrev pub or_nothing : Option Binding → Binding
or_nothing (Some s) = s
or_nothing None = bound.Nothing

-- WHAT A NAME STANDS FOR
abbrev pub binding : Names → List ℕ → Binding
binding names n = or_nothing (get names n)

-- a name is set, whatever it stood for
abbrev pub with_name : Names → List ℕ → Binding → Names
with_name names n s = insert names n s

-- NULL, the reference to nothing
abbrev pub null : Handle
null = record { 0 = 0 }

-- what a command refers to
abbrev pub referent : Names → Reference → Binding
referent names refers.Null = bound.Reference null
referent names (refers.Named n) = binding names n

-- the reference, none where nothing stands: E4 for a buffer
abbrev pub reference_in : Binding → Result (Option Handle) Fault
reference_in bound.Nothing = Ok None
reference_in (bound.Reference h) = Ok (Some h)
reference_in (bound.Buffer b) = Err fault.WrongKind

-- the reference where one is wanted: E2 where nothing stands, E4 for a buffer
abbrev pub wanted : Binding → Result Handle Fault
wanted bound.Nothing = Err fault.Stale
wanted (bound.Reference h) = Ok h
wanted (bound.Buffer b) = Err fault.WrongKind

-- the buffer where one is wanted: E2 where nothing stands, E4 for a reference
abbrev pub buffer_in : Binding → Result Copied Fault
buffer_in bound.Nothing = Err fault.Stale
buffer_in (bound.Reference h) = Err fault.WrongKind
buffer_in (bound.Buffer b) = Ok b

-- the number at an index of the buffer that stands there
abbrev pub getting : ℕ → Binding → Result ℤ Fault
getting i bound.Nothing = Err fault.Stale
getting i (bound.Reference h) = Err fault.WrongKind
getting i (bound.Buffer b) = number_in b i

-- copied elements as what a name stands for, or their refusal
abbrev pub buffered : Result Copied Fault → Result Binding Fault
buffered (Ok b) = Ok (bound.Buffer b)
buffered (Err e) = Err e

-- the buffer that stands there with a number at an index
abbrev pub putting : ℕ → ℤ → Binding → Result Binding Fault
putting i number bound.Nothing = Err fault.Stale
putting i number (bound.Reference h) = Err fault.WrongKind
putting i number (bound.Buffer b) = buffered (with_number b i number)

-- the names once a name's buffer was changed, or that was refused
abbrev pub names_put : Names → List ℕ → Result Binding Fault → Names
names_put names n (Ok s) = with_name names n s
names_put names n (Err e) = names

-- copied elements as what a name stands for, nothing for none
abbrev pub binding_left : Option CopiedElements → Binding
binding_left (Some elements) = bound.Buffer (copied_in elements)
binding_left None = bound.Nothing

-- the word of a reference, 0 for anything else
abbrev pub word_of_reference : Binding → ℕ
word_of_reference (bound.Reference h) = h.0
word_of_reference _ = 0

-- the word that is posted for a name: that of the reference which it stands for, 0 where it stands for none
abbrev pub word_posted : Names → List ℕ → ℕ
word_posted names n = word_of_reference (binding names n)
