-- Marks of objects, and what they say of what is reached.
use Rattle.std.specs.Prelude.{◌≡◌, ◌≢◌, ◌↔◌, ◌+◌, ◌<◌, ◌≤◌, ℕ, suc, Bool, true, false, cond, Option, Some}
use Rattle.std.specs.Prelude.{None, List, [], ◌∷◌, length, slice_get, slice_set, slice_index, slice_index_or}
use Rattle.jr_word.specs.declared.handle.RefKind.TheVariants.{Global}
use Rattle.jr_word.specs.declared.kind.Kind.TheVariants.{Objects}
use Rattle.jr_word.specs.declared.local.LocalParts.{LocalParts}
use Rattle.jr_word.specs.declared.local.LocalParts.TheVariants as local
use Rattle.jr_word.specs.declared.slot.SlotParts.{SlotParts}
use Rattle.jr_word.specs.declared.slot.SlotParts.TheVariants as slot
use Rattle.jr_model.specs.declared.event.Found.TheVariants.{Object}
use Rattle.jr_model.specs.State.{Handle, Contents, State, IsReached}

-- how many are true
unfoldable pub trues : List Bool → ℕ
trues [] = 0
trues (b ∷ bs) = cond b (suc (trues bs)) (trues bs)

-- the object is marked
abbrev pub IsMarked : List Bool → ℕ → Type 0
IsMarked marks o = slice_index_or marks o false ≡ true

-- the objects that were found are those that are marked, each once
pub record IsQueue (marks : List Bool) (found : List ℕ) (count : ℕ) : Type 0 where
  pub wide : length marks ≡ length found + 1
  pub none : slice_index_or marks 0 false ≡ false
  pub counted : count ≡ trues marks
  pub listed : (i : ℕ) → i < count → IsMarked marks (slice_index found i)
  pub queued : (o : ℕ) → IsMarked marks o → ∥ ((i : ℕ) × (i < count) × (slice_index found i ≡ o)) ∥₁
  pub once : (i j : ℕ) → i < count → j < count → slice_index found i ≡ slice_index found j → i ≡ j

-- what was found stays, and more may follow
pub record IsBefore (count : ℕ) (found : List ℕ) (count' : ℕ) (found' : List ℕ) : Type 0 where
  pub more : count ≤ count'
  pub same : (i : ℕ) → i < count → slice_index found' i ≡ slice_index found i

-- the marks, with one more if an object is given
abbrev pub with_mark : List Bool → Option ℕ → List Bool
with_mark marks None = marks
with_mark marks (Some o) = slice_set marks o true

-- the object of a slot's global reference, of a local word, or of a slot's weak reference with its serial
abbrev pub global_in : SlotParts → Option ℕ
global_in (slot.Global n o) = Some o
global_in _ = None

abbrev pub local_in : LocalParts → Option ℕ
local_in local.Free = None
local_in (local.Object o) = Some o

abbrev pub weak_in : SlotParts → Option (ℕ × ℕ)
weak_in (slot.Weak n (Some o)) = Some (n, o)
weak_in _ = None

-- what an element of an object array names: the object of its number, none for 0
pub record IsObjectWord (word : ℕ) (o : Option ℕ) : Type 0 where
  pub is : (r : ℕ) → o ≡ Some r → (r ≡ word) × (1 ≤ r)
  pub all : 1 ≤ word → word ≤ 65535 → o ≡ Some word

-- only what is reached is marked
abbrev pub IsSound : List Bool → State → Type 0
IsSound marks s = (o : ℕ) → IsMarked marks o → IsReached s o

-- the object of each global reference is marked, and of each local one of a thread, or of all
abbrev pub HasGlobals : List Bool → State → Type 0
HasGlobals marks s = (h : Handle) (o : ℕ) → h.kind ≡ Global → s.refs h ≡ Object o → IsMarked marks o

abbrev pub HasLocalsOf : ℕ → List Bool → State → Type 0
HasLocalsOf t marks s = (p o : ℕ) → s.locals t p ≡ Some o → IsMarked marks o

abbrev pub HasLocals : List Bool → State → Type 0
HasLocals marks s = (t : ℕ) → HasLocalsOf t marks s

-- with an object array each object that it names is marked, or with each that is marked
abbrev pub HasElementsOf : ℕ → List Bool → State → Type 0
HasElementsOf a marks s = (i o : ℕ) (x : Contents) → s.objects a ≡ Some x → x.kind ≡ Objects
    → slice_get x.words i ≡ Some o → o ≢ 0 → IsMarked marks o

abbrev pub HasElements : List Bool → State → Type 0
HasElements marks s = (a : ℕ) → IsMarked marks a → HasElementsOf a marks s

-- MARKED MEANS REACHED
abbrev pub IsExactly : List Bool → State → Type 0
IsExactly marks s = (o : ℕ) → IsMarked marks o ↔ IsReached s o
