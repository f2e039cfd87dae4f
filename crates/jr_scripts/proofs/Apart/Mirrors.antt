-- A WORLD ALONE beside what all share: what a thread alone would have made, and what it has made among others.
use Rattle.std.proofs.Common.{◌≡◌, ◌<◌, ◌≤◌, ◌+◌, ◌++◌, ℕ, Bool, true, false, Option, Some, None, List, [], ◌∷◌, map}
use Rattle.std.proofs.Common.{length, slice_index_or, sym, ap, subst, ◌∙◌, arith}
use Rattle.std.proofs.lemmas.List.{get_or_append_left}
use Rattle.std.specs.List.{AllByRecursion}
use native.Mathlib.Decide.{ℕ_discrete, dec_lt}
use mathlib.Core.Logic.{dite}
use Rattle.jr_word.specs.declared.config.Config.{Config}
use Rattle.jr_model.specs.declared.event.Role.{Role}
use Rattle.jr_model.specs.State.{Contents, is_barring}
use Rattle.jr_model.specs.Checks.{is_objects}
use Rattle.jr_world.specs.World.{Ref, how_many, standing_at}
use Rattle.jr_world.specs.Doing.{Shared, has_no_owner}
use Rattle.jr_scripts.proofs.OneRow.Alike.{Begin, Tidy, frames_of, owner_of, role_of}
use Rattle.jr_scripts.proofs.Apart.Numbers.{Extends, HasElement, HasKnown, Numbers, object_as, object_of, reads_on}
use Rattle.jr_scripts.proofs.Apart.Numbers.{ref_in, ref_of}

-- whose a reference is among others, of the thread that is alone
abbrev pub owner_in : ℕ → Option ℕ → Option ℕ
owner_in t None = None
owner_in t (Some u) = Some t

abbrev pub HasObject : Numbers → Option Ref → Type 0
HasObject k None = Unit {0}
HasObject k (Some r) = HasKnown k r.object

abbrev pub elements_within : Numbers → Bool → List ℕ → Type 0
elements_within k true words = AllByRecursion (HasElement k) words
elements_within k false words = Unit {0}

abbrev pub HasElements : Numbers → Option Contents → Type 0
HasElements k None = Unit {0}
HasElements k (Some x) = elements_within k (is_objects x.kind) x.words

-- how many global and weak references were made
abbrev pub made_slots : Shared → ℕ
made_slots s = how_many has_no_owner s.owners

-- A WORLD ALONE of so many references and objects: one thread is in it, and each number in it has one
pub record IsAlone (k : Numbers) (z : Shared) : Type 0 where
  pub role : Role
  pub roles : z.roles ≡ role ∷ []
  pub free : is_barring role ≡ false
  pub frames : List (List ℕ)
  pub one_thread : z.frames ≡ frames ∷ []
  pub as_many_refs : length z.refs ≡ length k.refs
  pub as_many_objects : length z.objects ≡ length k.objects
  pub tidy : Tidy z
  pub own : (n u : ℕ) → owner_of z n ≡ Some u → u ≡ 0
  pub have_objects : (n : ℕ) → HasObject k (standing_at z.refs n)
  pub have_elements : (o : ℕ) → HasElements k (standing_at z.objects o)

-- WHAT ALL SHARE HAS IT IN IT, as thread t's
pub record Mirrors (t : ℕ) (k : Numbers) (s z : Shared) : Type 0 where
  pub alone : IsAlone k z
  pub tidy : Tidy s
  pub refs : (n : ℕ) → n < length k.refs → standing_at s.refs (ref_of k n) ≡ ref_in k (standing_at z.refs n)
  pub owners : (n : ℕ) → n < length k.refs → owner_of s (ref_of k n) ≡ owner_in t (owner_of z n)
  pub objects : (o : ℕ) → o < length k.objects
      → standing_at s.objects (object_of k o) ≡ object_as k (standing_at z.objects o)
  pub frames : frames_of s t ≡ map (map (ref_of k)) (frames_of z 0)
  pub refs_there : (n : ℕ) → n < length k.refs → ref_of k n < length s.refs
  pub objects_there : (o : ℕ) → o < length k.objects → object_of k o < length s.objects
  pub refs_differ : (m n : ℕ) → m < length k.refs → n < length k.refs → ref_of k m ≡ ref_of k n → m ≡ n
  pub objects_differ : (m n : ℕ) → m < length k.objects → n < length k.objects → object_of k m ≡ object_of k n → m ≡ n
  pub fewer_slots : made_slots z ≤ made_slots s
  pub fewer_objects : length z.objects ≤ length s.objects
  pub fewer_words : z.used ≤ s.used
  pub sits : (t < length s.frames) × (t < length s.roles)
  pub unbarred : (v : ℕ) → is_barring (role_of s v) ≡ false

-- WHAT A STEP LEAVES of thread t, where these numbers are its own: all that is others'
pub record Untouched (t : ℕ) (k : Numbers) (s s' : Shared) : Type 0 where
  pub more_refs : length s.refs ≤ length s'.refs
  pub refs : (n : ℕ) → n < length s.refs → ((m : ℕ) → m < length k.refs → ref_of k m ≡ n → ⊥)
      → standing_at s'.refs n ≡ standing_at s.refs n
  pub more_objects : length s.objects ≤ length s'.objects
  pub objects : (n : ℕ) → n < length s.objects → ((m : ℕ) → m < length k.objects → object_of k m ≡ n → ⊥)
      → standing_at s'.objects n ≡ standing_at s.objects n
  pub owners : Begin s.owners s'.owners
  pub as_many_frames : length s'.frames ≡ length s.frames
  pub frames : (v : ℕ) → (v ≡ t → ⊥) → frames_of s' v ≡ frames_of s v
  pub as_many_roles : length s'.roles ≡ length s.roles
  pub roles : (v : ℕ) → (v ≡ t → ⊥) → role_of s' v ≡ role_of s v
  pub unbarred : is_barring (role_of s' t) ≡ false
  pub tidy : Tidy s'
  pub more_slots : made_slots s ≤ made_slots s'
  pub more_words : s.used ≤ s'.used

-- two threads' numbers are no other's
pub record AreApart (j k : Numbers) : Type 0 where
  pub refs : (m n : ℕ) → m < length j.refs → n < length k.refs → ref_of j m ≡ ref_of k n → ⊥
  pub objects : (m n : ℕ) → m < length j.objects → n < length k.objects → object_of j m ≡ object_of k n → ⊥

-- who owned a reference still does
owner_on : (xs ys : List (Option ℕ)) → Begin xs ys → (n : ℕ) → n < length xs
    → slice_index_or ys n None ≡ slice_index_or xs n None
owner_on xs ys begin n small =
    ap (λ l. slice_index_or l n None) (sym begin.1) ∙ get_or_append_left xs begin.0 None n small

-- what is none of the numbers so far, and less than each new one, is none of them all
still_apart : (w : ℕ) (xs new ys : List ℕ) → ys ≡ xs ++ new → (bound : ℕ) → w < bound
    → ((n : ℕ) → n < length xs → w ≡ slice_index_or xs n 0 → ⊥)
    → ((n : ℕ) → length xs ≤ n → n < length ys → bound ≤ slice_index_or ys n 0)
    → (n : ℕ) → n < length ys → w ≡ slice_index_or ys n 0 → ⊥
still_apart w xs new ys is bound below old later n small e = dite (dec_lt n (length xs))
    (λ less. old n less (e ∙ (reads_on xs new ys is n less).0))
    (λ more. let high = later n (omega arith) small in omega arith)

-- so another's step leaves a thread's world as it is
pub mirrors_beside : (t v : ℕ) (j k : Numbers) (s s' z : Shared) → (v ≡ t → ⊥) → AreApart j k → Mirrors v j s z
    → Untouched t k s s' → Mirrors v j s' z
mirrors_beside t v j k s s' z other apart m u = record {
  alone = m.alone;
  tidy = u.tidy;
  refs = λ n small. u.refs (ref_of j n) (m.refs_there n small) (λ i less e. apart.refs n i small less (sym e))
      ∙ m.refs n small;
  owners = λ n small. owner_on s.owners s'.owners u.owners (ref_of j n)
      (subst (λ l. ref_of j n < l) (sym m.tidy.owned) (m.refs_there n small)) ∙ m.owners n small;
  objects = λ o small. u.objects (object_of j o) (m.objects_there o small)
      (λ i less e. apart.objects o i small less (sym e)) ∙ m.objects o small;
  frames = u.frames v other ∙ m.frames;
  refs_there = λ n small. let there = m.refs_there n small in let more = u.more_refs in omega arith;
  objects_there = λ o small. let there = m.objects_there o small in let more = u.more_objects in omega arith;
  refs_differ = m.refs_differ;
  objects_differ = m.objects_differ;
  fewer_slots = let few = m.fewer_slots in let more = u.more_slots in omega arith;
  fewer_objects = let few = m.fewer_objects in let more = u.more_objects in omega arith;
  fewer_words = let few = m.fewer_words in let more = u.more_words in omega arith;
  sits = (
    subst (λ l. v < l) (sym u.as_many_frames) m.sits.0,
    subst (λ l. v < l) (sym u.as_many_roles) m.sits.1,
  );
  unbarred = λ w. dite (ℕ_discrete w t)
      (λ e. ap (λ x. is_barring (role_of s' x)) e ∙ u.unbarred)
      (λ apart. ap is_barring (u.roles w apart) ∙ m.unbarred w);
}

-- .. and new numbers are no other's
pub apart_on : (t : ℕ) (j i k : Numbers) (s s' y z : Shared) (v : ℕ) → AreApart j i → Mirrors v j s z → Extends i k
    → Mirrors t k s' y → ((n : ℕ) → length i.refs ≤ n → n < length k.refs → length s.refs ≤ ref_of k n)
    → ((o : ℕ) → length i.objects ≤ o → o < length k.objects → length s.objects ≤ object_of k o) → AreApart j k
apart_on t j i k s s' y z v apart m more mirrors new_refs new_objects = record {
  refs = λ n o less small. still_apart (ref_of j n) i.refs more.refs k.refs more.refs_are (length s.refs)
      (m.refs_there n less) (λ a old. apart.refs n a less old) new_refs o small;
  objects = λ n o less small. still_apart (object_of j n) i.objects more.objects k.objects more.objects_are
      (length s.objects) (m.objects_there n less) (λ a old. apart.objects n a less old) new_objects o small;
}

-- WHAT A THREAD STILL ASKS FOR: global and weak references, objects, and words
pub record Asks : Type 0 where
  pub slots : ℕ
  pub objects : ℕ
  pub words : ℕ

abbrev pub and_asks : Asks → Asks → Asks
and_asks p q = record { slots = p.slots + q.slots; objects = p.objects + q.objects; words = p.words + q.words }

abbrev pub AtLeast : Asks → Asks → Type 0
AtLeast p q = (q.slots ≤ p.slots) × (q.objects ≤ p.objects) × (q.words ≤ p.words)

-- it fits beside what was made; and a step spends of it what it makes
pub record Fits (c : Config) (q : Asks) (s : Shared) : Type 0 where
  pub slots : made_slots s + q.slots ≤ c.slots
  pub objects : length s.objects + q.objects ≤ c.objects
  pub words : s.used + q.words ≤ c.words

pub record Spends (q p : Asks) (s s' : Shared) : Type 0 where
  pub slots : made_slots s' + p.slots ≤ made_slots s + q.slots
  pub objects : length s'.objects + p.objects ≤ length s.objects + q.objects
  pub words : s'.used + p.words ≤ s.used + q.words
