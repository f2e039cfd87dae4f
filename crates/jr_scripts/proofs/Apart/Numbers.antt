-- NUMBERS OF ONE WORLD FOR THOSE OF ANOTHER: what a thread alone has made, and what it has made among others.
use Rattle.std.proofs.Common.{◌≡◌, ◌<◌, ◌≤◌, ◌+◌, ◌++◌, ℕ, zero, suc, Bool, true, false, Option, Some, None, List, []}
use Rattle.std.proofs.Common.{map, length, slice_index_or, refl, sym, ap, ◌∙◌, append-nil, append_assoc, arith}
use Rattle.std.proofs.lemmas.List.{get_or_append_left, length-append}
use Rattle.jr_model.specs.State.{Contents}
use Rattle.jr_model.specs.Checks.{is_objects}
use Rattle.jr_model.specs.Programs.{AnswerKind, nothing, truth, number, object, object_kind, handle, found, counts}
use Rattle.jr_model.specs.Programs.{perhaps, several, both}
use Rattle.jr_world.specs.World.{MeantOf, Ref}

-- of each reference and each object that the thread alone made, its number among others
pub record Numbers : Type 0 where
  pub refs : List ℕ
  pub objects : List ℕ

abbrev pub ref_of : Numbers → ℕ → ℕ
ref_of k n = slice_index_or k.refs n 0

abbrev pub object_of : Numbers → ℕ → ℕ
object_of k o = slice_index_or k.objects o 0

-- a word: that of NULL, or of a reference; and an element: that of NULL, or of an object
abbrev pub word_of : Numbers → ℕ → ℕ
word_of k zero = zero
word_of k (suc n) = suc (ref_of k n)

abbrev pub element_of : Numbers → ℕ → ℕ
element_of k zero = zero
element_of k (suc o) = suc (object_of k o)

-- what stands
abbrev pub known_of : Numbers → Option ℕ → Option ℕ
known_of k None = None
known_of k (Some o) = Some (object_of k o)

abbrev pub ref_in : Numbers → Option Ref → Option Ref
ref_in k None = None
ref_in k (Some r) = Some (record r { object = known_of k r.object })

abbrev pub contents_as : Numbers → Bool → List ℕ → List ℕ
contents_as k true words = map (element_of k) words
contents_as k false words = words

abbrev pub object_as : Numbers → Option Contents → Option Contents
object_as k None = None
object_as k (Some x) = Some (record x { words = contents_as k (is_objects x.kind) x.words })

-- numbers that have one: fewer were made alone than these
abbrev pub HasWord : Numbers → ℕ → Type 0
HasWord k w = w ≤ length k.refs

abbrev pub HasElement : Numbers → ℕ → Type 0
HasElement k w = w ≤ length k.objects

abbrev pub HasKnown : Numbers → Option ℕ → Type 0
HasKnown k None = Unit {0}
HasKnown k (Some o) = o < length k.objects

-- WHAT IS SO of two answers, where numbers stand for others
abbrev pub Of : Type 0 → Type 1
Of A = Numbers → A → A → Type 0

abbrev pub same : {A : Type 0} → Of A
same k x y = x ≡ y

abbrev pub WordFor : Of ℕ
WordFor k h w = (h ≡ word_of k w) × HasWord k w

abbrev pub ElementFor : Of ℕ
ElementFor k v w = (v ≡ element_of k w) × HasElement k w

abbrev pub ObjectFor : Of ℕ
ObjectFor k o u = (o ≡ object_of k u) × (u < length k.objects)

abbrev pub KnownFor : Of (Option ℕ)
KnownFor k x y = (x ≡ known_of k y) × HasKnown k y

-- MORE WAS MADE
pub record Extends (j k : Numbers) : Type 0 where
  pub refs : List ℕ
  pub objects : List ℕ
  pub refs_are : k.refs ≡ j.refs ++ refs
  pub objects_are : k.objects ≡ j.objects ++ objects

-- AN ANSWER for another
abbrev pub IsFor : Numbers → (a : AnswerKind) → MeantOf a → MeantOf a → Type 0
IsFor k handle h g = WordFor k h.0 g.0
IsFor k object o p = ObjectFor k o p
IsFor k (perhaps a) None None = Unit {0}
IsFor k (perhaps a) (Some x) (Some y) = IsFor k a x y
IsFor k (perhaps a) x y = ⊥
IsFor k _ x y = x ≡ y

-- what a list has stands there in a longer one too
pub reads_on : (xs more ys : List ℕ) → ys ≡ xs ++ more → (n : ℕ) → n < length xs
    → (slice_index_or ys n 0 ≡ slice_index_or xs n 0) × (n < length ys)
reads_on xs more ys is n small = (
  ap (λ l. slice_index_or l n 0) is ∙ get_or_append_left xs more 0 n small,
  let long : length ys ≡ length xs + length more = ap length is ∙ length-append xs more in omega arith,
)

-- what has a number keeps it where more was made
module _ {j k : Numbers} (more : Extends j k) where
  pub number_stays : (n : ℕ) → n < length j.refs → (ref_of k n ≡ ref_of j n) × (n < length k.refs)
  number_stays n small = reads_on j.refs more.refs k.refs more.refs_are n small

  pub object_later : (o u : ℕ) → ObjectFor j o u → ObjectFor k o u
  object_later o u is =
      let it = reads_on j.objects more.objects k.objects more.objects_are u is.1 in (is.0 ∙ sym it.0, it.1)

  pub word_later : (h w : ℕ) → WordFor j h w → WordFor k h w
  word_later h zero is = (is.0, omega arith)
  word_later h (suc n) is = let has = is.1 in let it = number_stays n (omega arith) in let small = it.1 in
      (is.0 ∙ ap suc (sym it.0), omega arith)

  pub element_later : (v w : ℕ) → ElementFor j v w → ElementFor k v w
  element_later v zero is = (is.0, omega arith)
  element_later v (suc u) is = let has = is.1 in
      let it = object_later (object_of j u) u (refl, omega arith) in let small = it.1 in
      (is.0 ∙ ap suc it.0, omega arith)

  pub known_later : (x y : Option ℕ) → KnownFor j x y → KnownFor k x y
  known_later x None is = (is.0, tt)
  known_later x (Some u) is =
      let it = object_later (object_of j u) u (refl, is.1) in (is.0 ∙ ap Some it.0, it.1)

  pub is_for_stays : (a : AnswerKind) (x y : MeantOf a) → IsFor j a x y → IsFor k a x y
  is_for_stays object o p is = object_later o p is
  is_for_stays handle h g is = word_later h.0 g.0 is
  is_for_stays (perhaps a) None None is = tt
  is_for_stays (perhaps a) None (Some y) is = absurd is
  is_for_stays (perhaps a) (Some x) None is = absurd is
  is_for_stays (perhaps a) (Some x) (Some y) is = is_for_stays a x y is
  is_for_stays nothing x y is = is
  is_for_stays truth x y is = is
  is_for_stays number x y is = is
  is_for_stays object_kind x y is = is
  is_for_stays found x y is = is
  is_for_stays counts x y is = is
  is_for_stays (several a) x y is = is
  is_for_stays (both a b) x y is = is

-- what stays so where more was made
abbrev pub Stays : {A : Type 0} → Of A → Type 0
Stays {A} Q = (j k : Numbers) → Extends j k → (x y : A) → Q j x y → Q k x y

pub answer_stays : (a : AnswerKind) → Stays (λ j. IsFor j a)
answer_stays a = λ j k more x y is. is_for_stays more a x y is

pub extends_itself : (k : Numbers) → Extends k k
extends_itself k = record {
  refs = [];
  objects = [];
  refs_are = sym (append-nil k.refs);
  objects_are = sym (append-nil k.objects);
}

pub extends_through : {i j k : Numbers} → Extends i j → Extends j k → Extends i k
extends_through {i} a b = record {
  refs = a.refs ++ b.refs;
  objects = a.objects ++ b.objects;
  refs_are = b.refs_are ∙ ap (λ l. l ++ b.refs) a.refs_are ∙ append_assoc i.refs a.refs b.refs;
  objects_are = b.objects_are ∙ ap (λ l. l ++ b.objects) a.objects_are
      ∙ append_assoc i.objects a.objects b.objects;
}
