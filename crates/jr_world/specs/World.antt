-- THE WORLD that calls speak of, without handles, slots, places or object numbers, and what single steps do in it
use Rattle.std.specs.Prelude.{◌+◌, ◌==◌, ℕ, zero, suc, Bool, false, cond, not, nat_lt, nat_le}
use Rattle.std.specs.Prelude.{Option, Some, None, is_some, Result, Ok, Err, List, [], ◌∷◌, ◌++◌, map, length}
use Rattle.std.specs.Prelude.{slice_index_or, slice_set}
use Rattle.std.specs.List.{filter, sum_by}
use Rattle.jr_word.specs.declared.config.Config.{Config}
use Rattle.jr_word.specs.declared.fault.Fault.{Fault}
use Rattle.jr_word.specs.declared.fault.Fault.TheVariants as fault
use Rattle.jr_word.specs.declared.handle.Handle.{Handle}
use Rattle.jr_word.specs.declared.handle.RefKind.{RefKind}
use Rattle.jr_word.specs.declared.handle.RefKind.TheVariants.{Local}
use Rattle.jr_word.specs.declared.kind.Kind.{Kind}
use Rattle.jr_word.specs.declared.kind.Kind.TheVariants.{Plain}
use Rattle.jr_model.specs.declared.frames.TheConstants.{FRAMES}
use Rattle.jr_model.specs.State.{Contents, same_kind}
use Rattle.jr_model.specs.Checks.{kind_number}
use Rattle.jr_model.specs.Programs.{AnswerKind, nothing, truth, object_kind, handle, perhaps, several, Which}

-- a reference: its kind, and the number of its object, none once it is cleared
pub record Ref : Type 0 where
  pub kind : RefKind
  pub object : Option ℕ

-- THE WORLD: objects and references in the order in which they were made, none for what is gone. No number comes
-- again. A name stands for 0, which is NULL, or for one more than the number of a reference; an element of an
-- array of objects is 0, or one more than the number of an object
pub record World : Type 0 where
  pub objects : List (Option Contents)
  pub refs : List (Option Ref)
  pub frames : List (List ℕ)  -- the local references of each frame, by their numbers, the oldest frame first
  pub used : ℕ  -- the words of array space that are used

-- A MEANING: from a world an answer or a refusal, and the world then
abbrev pub Meaning : Type 0 → Type 0
Meaning A = World → Result A Fault × World

-- an answer or a refusal that changes nothing
abbrev pub decided : {A : Type 0} → Result A Fault → Meaning A
decided r w = (r, w)

abbrev pub done : {A : Type 0} → A → Meaning A
done x = decided (Ok x)

abbrev pub goes_on : {A B : Type 0} → (A → Meaning B) → Result A Fault × World → Result B Fault × World
goes_on next (Ok x, w) = next x w
goes_on next (Err e, w) = (Err e, w)

infixl 1 ◌>>=◌
infixl 1 ◌>>◌
-- one and then the other; a refusal ends it
abbrev pub ◌>>=◌ : {A B : Type 0} → Meaning A → (A → Meaning B) → Meaning B
(first >>= next) w = goes_on next (first w)

abbrev pub ◌>>◌ : {A B : Type 0} → Meaning A → Meaning B → Meaning B
first >> next = first >>= (λ _. next)

-- what the world tells, which stays as it is
abbrev pub found : {A : Type 0} → (World → Result A Fault) → Meaning A
found f w = (f w, w)

abbrev pub ask : {A : Type 0} → (World → A) → Meaning A
ask f = found (λ w. Ok (f w))

-- this refusal where the test holds
abbrev pub refused_if : Bool → Fault → Result (Unit {0}) Fault
refused_if b e = cond b (Err e) (Ok tt)

abbrev pub refuse_if : Bool → Fault → Meaning (Unit {0})
refuse_if b e = decided (refused_if b e)

abbrev pub refuse_where : (World → Bool) → Fault → Meaning (Unit {0})
refuse_where test e = found (λ w. refused_if (test w) e)

-- the world becomes another
abbrev pub change : (World → World) → Meaning (Unit {0})
change f w = (Ok tt, f w)

-- how many pass a test
abbrev pub how_many : {A : Type 0} → (A → Bool) → List A → ℕ
how_many p xs = length (filter p xs)

-- what stands at a number, and how many stand
abbrev pub standing_at : {A : Type 0} → List (Option A) → ℕ → Option A
standing_at xs n = slice_index_or xs n None

abbrev pub standing : {A : Type 0} → List (Option A) → ℕ
standing xs = how_many is_some xs

-- REFERENCES

-- a reference of the kind stands
abbrev pub is_ref_of : RefKind → Option Ref → Bool
is_ref_of k None = false
is_ref_of k (Some r) = same_kind k r.kind

-- how many stand of the kind
abbrev pub refs_of : RefKind → World → ℕ
refs_of k w = how_many (is_ref_of k) w.refs

-- how many local references stand
abbrev pub held : World → ℕ
held w = sum_by length w.frames

-- what a reference is to, none for a cleared one: E2 where it is gone
abbrev pub object_in : Option Ref → Result (Option ℕ) Fault
object_in None = Err fault.Stale
object_in (Some r) = Ok r.object

-- the object for which a name's word stands, none for NULL
abbrev pub object : ℕ → Meaning (Option ℕ)
object zero = done None
object (suc n) = found (λ w. object_in (standing_at w.refs n))

abbrev pub type_in : Option Ref → ℕ
type_in None = 0
type_in (Some r) = kind_number r.kind

-- the type of a reference, 0 for NULL and for one that is gone
abbrev pub type_meant : ℕ → Meaning ℕ
type_meant zero = done 0
type_meant (suc n) = ask (λ w. type_in (standing_at w.refs n))

-- references that are gone
abbrev pub without : List ℕ → List (Option Ref) → List (Option Ref)
without [] refs = refs
without (n ∷ ns) refs = without ns (slice_set refs n None)

-- the world without a reference, in whichever frame it is
abbrev pub removed : ℕ → World → World
removed n w = record w { refs = without (n ∷ []) w.refs; frames = map (filter (λ m. not (m == n))) w.frames }

-- a reference is deleted; to delete NULL does nothing
abbrev pub delete : ℕ → Meaning (Unit {0})
delete zero = done tt
delete (suc n) = do
  object (suc n)
  change (removed n)

-- one more reference to an object: the word for it
abbrev pub new_ref : RefKind → ℕ → Meaning Handle
new_ref k o = do
  change (λ w. record w { refs = w.refs ++ Some (record { kind = k; object = Some o }) ∷ [] })
  ask (λ w. record { 0 = length w.refs })

-- all but the last of a list
abbrev pub all_but_last : {A : Type 0} → List A → List A
all_but_last [] = []
all_but_last (x ∷ []) = []
all_but_last (x ∷ y ∷ xs) = x ∷ all_but_last (y ∷ xs)

-- the last frame
abbrev pub newest_frame : List (List ℕ) → List ℕ
newest_frame [] = []
newest_frame (f ∷ []) = f
newest_frame (f ∷ g ∷ fs) = newest_frame (g ∷ fs)

-- a number at the end of the last frame
abbrev pub put_last : List (List ℕ) → ℕ → List (List ℕ)
put_last [] n = []
put_last (f ∷ []) n = (f ++ n ∷ []) ∷ []
put_last (f ∷ g ∷ fs) n = f ∷ put_last (g ∷ fs) n

-- one more local reference, in the last frame
abbrev pub added : ℕ → Meaning Handle
added o = do
  change (λ w. record w { frames = put_last w.frames (length w.refs) })
  new_ref Local o

module _ (c : Config) where
  -- so many more local references find a place: else E9
  abbrev pub room_for : ℕ → Meaning (Unit {0})
  room_for n = refuse_where (λ w. nat_lt c.locals (held w + n)) fault.LocalsFull

  -- a new local reference, none to nothing
  abbrev pub new_local : Option ℕ → Meaning (Option Handle)
  new_local None = done None
  new_local (Some o) = do
    room_for 1
    h ← added o
    done (Some h)

  -- FRAMES

  -- one more frame: E9 where there are as many as may be, or too few places
  abbrev pub push : ℕ → Meaning (Unit {0})
  push n = do
    refuse_where (λ w. nat_le FRAMES (length w.frames)) fault.LocalsFull
    room_for n
    change (λ w. record w { frames = w.frames ++ [] ∷ [] })

  -- OBJECTS

  -- so many words of array space are used more: E10 where they don't fit
  abbrev pub reserve : ℕ → Meaning (Unit {0})
  reserve n = do
    used ← ask (λ w. w.used)
    refuse_if (nat_lt c.words (used + n)) (fault.SpaceFull used)
    change (λ w. record w { used = used + n })

  -- one more object: its number; E11 where there are as many as may be
  abbrev pub new_object : Kind → List ℕ → Meaning ℕ
  new_object k words = do
    refuse_where (λ w. standing w.objects == c.objects) fault.ObjectsFull
    o ← ask (λ w. length w.objects)
    change (λ w. record w { objects = w.objects ++ Some (record { kind = k; words = words }) ∷ [] })
    done o

-- the element that names an object, and the object that an element names
abbrev pub element_to : Option ℕ → ℕ
element_to None = 0
element_to (Some o) = suc o

abbrev pub named_by : ℕ → Option ℕ
named_by zero = None
named_by (suc o) = Some o

-- the contents of an object that is there
abbrev pub contents_in : Option Contents → Contents
contents_in None = record { kind = Plain; words = [] }
contents_in (Some x) = x

abbrev pub contents : World → ℕ → Contents
contents w o = contents_in (standing_at w.objects o)

-- an object that is wanted: E1 for none
abbrev pub not_null : Option ℕ → Result ℕ Fault
not_null None = Err fault.Null
not_null (Some o) = Ok o

-- the words of an object are rewritten
abbrev pub rewrites : (List ℕ → List ℕ) → ℕ → Meaning (Unit {0})
rewrites f o = change (λ w. record w {
  objects = slice_set w.objects o
      (Some (record { kind = (contents w o).kind; words = f (contents w o).words }));
})

-- words once these stand from an index on
abbrev pub overwritten : ℕ → List ℕ → List ℕ → List ℕ
overwritten i [] words = words
overwritten i (v ∷ vs) words = overwritten (i + 1) vs (slice_set words i v)

-- CALLS, which are the machine's, as programs

-- what a call answers here: of an object its number, of a reference its word
abbrev pub MeantOf : AnswerKind → Type 0
MeantOf nothing = Unit {0}
MeantOf truth = Bool
MeantOf object_kind = Kind
MeantOf handle = Handle
MeantOf (perhaps a) = Option (MeantOf a)
MeantOf (several a) = List (MeantOf a)
MeantOf _ = ℕ

-- the element that names what is known of a place, 0 for no place
abbrev pub element_for : (Which → Option ℕ) → Option Which → ℕ
element_for known None = 0
element_for known (Some p) = element_to (known p)
