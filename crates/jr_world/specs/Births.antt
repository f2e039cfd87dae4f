-- THE WORLD OF A HISTORY: what was made in it, in the order of birth, whichever thread made it.
use Rattle.std.specs.Prelude.{◌≡◌, ◌≢◌, ◌<◌, ◌+◌, ◌==◌, ◌&&◌, ℕ, zero, suc, Bool, true, false, cond, nat_eq}
use Rattle.std.specs.Prelude.{Option, Some, None, List, [], ◌∷◌, ◌++◌, map, length, slice_get, slice_set}
use Rattle.jr_word.specs.declared.config.Config.{Config}
use Rattle.jr_word.specs.declared.kind.Kind.{Kind}
use Rattle.jr_word.specs.declared.handle.RefKind.{RefKind}
use Rattle.jr_word.specs.declared.handle.RefKind.TheVariants.{Local}
use Rattle.jr_model.specs.declared.event.Act.{Act}
use Rattle.jr_model.specs.declared.event.Act.TheVariants.{Create, Delete, Clear, LocalPut, LocalDrop, New, Write, Drop}
use Rattle.jr_model.specs.declared.event.Act.TheVariants.{Reserve, Settle}
use Rattle.jr_model.specs.declared.event.Found.{Found}
use Rattle.jr_model.specs.declared.event.Found.TheVariants.{Object, Cleared, Stale}
use Rattle.jr_model.specs.Maps.{update}
use Rattle.jr_model.specs.State.{Handle, State, Contents, same_handle}
use Rattle.jr_model.specs.History.{History, IsLegal, state}
use Rattle.jr_model.specs.Checks.{is_local, is_objects}
use Rattle.jr_world.specs.World.{Ref}

-- WHAT WAS BORN: each object with its number in the room, and each reference with its handle, none for what is gone;
-- how many handles each place of each thread has given; and how many words are used.
-- An element of an array of objects is 0, or one more than where the object that it names was born
pub record Births : Type 0 where
  pub objects : List (ℕ × Option Contents)
  pub refs : List (Handle × Option Ref)
  pub puts : ℕ → ℕ → ℕ
  pub used : ℕ

abbrev pub no_births : Births
no_births = record { objects = []; refs = []; puts = λ t p. 0; used = 0 }

-- where the object with this number was born that stands
abbrev pub birth_here : Option Contents → Bool → ℕ → ℕ
birth_here (Some x) true n = 0
birth_here _ _ n = suc n

abbrev pub birth_of : List (ℕ × Option Contents) → ℕ → ℕ
birth_of [] o = 0
birth_of (x ∷ xs) o = birth_here x.1 (x.0 == o) (birth_of xs o)

-- an element of an array of objects, by the births
abbrev pub born_word : List (ℕ × Option Contents) → ℕ → ℕ
born_word objects zero = 0
born_word objects (suc o) = suc (birth_of objects (suc o))

-- an element of an object of this kind
abbrev pub word_of_kind : List (ℕ × Option Contents) → Kind → ℕ → ℕ
word_of_kind objects k v = cond (is_objects k) (born_word objects v) v

abbrev pub words_of_kind : List (ℕ × Option Contents) → Kind → List ℕ → List ℕ
words_of_kind objects k ws = map (word_of_kind objects k) ws

-- the contents with v as element i
abbrev pub rewritten : List (ℕ × Option Contents) → ℕ → ℕ → Option Contents → Option Contents
rewritten objects i v None = None
rewritten objects i v (Some x) =
    Some (record { kind = x.kind; words = slice_set x.words i (word_of_kind objects x.kind v) })

-- the references for which the test holds are gone
abbrev pub gone_where : (Handle → Bool) → List (Handle × Option Ref) → List (Handle × Option Ref)
gone_where p refs = map (λ e. (e.0, cond (p e.0) None e.1)) refs

-- a local reference of thread t at place p
abbrev pub is_at : ℕ → ℕ → Handle → Bool
is_at t p h = is_local h && ((t == h.owner) && (p == h.index))

-- the next handle of the place
abbrev pub next_of_place : ℕ → ℕ → ℕ → Handle
next_of_place t p n = record { kind = Local; serial = n; index = p; owner = t }

abbrev pub ref_to : RefKind → ℕ → Option Ref
ref_to k o = Some (record { kind = k; object = Some o })

-- a reference that is cleared
abbrev pub emptied : Option Ref → Option Ref
emptied None = None
emptied (Some r) = Some (record { kind = r.kind; object = None })

-- what is born by an act of thread t
abbrev pub born_by : Births → ℕ → Act → Births
born_by b t (New o k ws) = record b {
  objects = b.objects ++ (o, Some (record { kind = k; words = words_of_kind b.objects k ws })) ∷ [];
}
born_by b t (Create h o) = record b { refs = b.refs ++ (h, ref_to h.kind (birth_of b.objects o)) ∷ [] }
born_by b t (Delete h) = record b { refs = gone_where (same_handle h) b.refs }
born_by b t (LocalPut p o) = record b {
  refs = gone_where (is_at t p) b.refs ++ (next_of_place t p (b.puts t p), ref_to Local (birth_of b.objects o)) ∷ [];
  puts = update nat_eq b.puts t (update nat_eq (b.puts t) p (suc (b.puts t p)));
}
born_by b t (LocalDrop p) = record b { refs = gone_where (is_at t p) b.refs }
born_by b t (Write o i v) = record b {
  objects = map (λ e. (e.0, cond (e.0 == o) (rewritten b.objects i v e.1) e.1)) b.objects;
}
born_by b t (Clear h) = record b { refs = map (λ e. (e.0, cond (same_handle h e.0) (emptied e.1) e.1)) b.refs }
born_by b t (Drop o) = record b { objects = map (λ e. (e.0, cond (e.0 == o) None e.1)) b.objects }
born_by b t (Reserve n) = record b { used = b.used + n }
born_by b t (Settle u) = record b { used = u }
born_by b t _ = b

abbrev pub births_from : Births → History → Births
births_from b [] = b
births_from b (e ∷ es) = births_from (born_by b e.thread e.act) es

abbrev pub births : History → Births
births es = births_from no_births es

-- what stands at a handle of the row, or at a place of any thread
abbrev pub found_at_place : Option ℕ → Found
found_at_place None = Stale
found_at_place (Some p) = Object p

abbrev pub found_in : Births → State → Handle → Found
found_in b s h = cond (is_local h)
    (cond (suc h.serial == b.puts h.owner h.index) (found_at_place (s.locals h.owner h.index)) Stale) (s.refs h)

-- what is told of a reference is what stands there
abbrev pub RefIsSo : List (ℕ × Option Contents) → RefKind → Option Ref → Found → Type 0
RefIsSo objects k (Some r) (Object p) = (r.kind ≡ k) × (o : ℕ) × (r.object ≡ Some o)
    × (x : Contents) × (slice_get objects o ≡ Some (p, Some x))
RefIsSo objects k (Some r) Cleared = (r.kind ≡ k) × (r.object ≡ None)
RefIsSo objects k None Stale = Unit {0}
RefIsSo objects k _ _ = ⊥

-- the handle was given
abbrev pub HasBeenGiven : Births → State → Handle → Type 0
HasBeenGiven b s h = cond (is_local h) (h.serial < b.puts h.owner h.index) (s.given h ≡ true)

-- an element of an array of objects: 0, or it names where the object with the number was born,
-- which is the one that stands, where one does
abbrev pub NamesBirth : Births → State → ℕ → ℕ → Type 0
NamesBirth b s v zero = v ≡ 0
NamesBirth b s v (suc j) = (x : Option Contents) × (slice_get b.objects j ≡ Some (v, x))
    × ((y : Contents) → s.objects v ≡ Some y → (z : Contents) × (slice_get b.objects j ≡ Some (v, Some z)))

-- an object's contents by the births
pub record AreContents (b : Births) (s : State) (x y : Contents) : Type 0 where
  pub kind : y.kind ≡ x.kind
  pub long : length y.words ≡ length x.words
  pub words : is_objects x.kind ≡ false → y.words ≡ x.words
  pub named : is_objects x.kind ≡ true → (i v w : ℕ) → slice_get x.words i ≡ Some v → slice_get y.words i ≡ Some w
      → NamesBirth b s v w

-- THE WORLD IS AS THE STATE: each object and each reference that stands was born, once, and is as it is told
pub record IsAs (b : Births) (s : State) : Type 0 where
  pub contents : (i p : ℕ) (y : Contents) → slice_get b.objects i ≡ Some (p, Some y)
      → (x : Contents) × (s.objects p ≡ Some x) × AreContents b s x y
  pub objects : (p : ℕ) (x : Contents) → s.objects p ≡ Some x
      → (i : ℕ) × (y : Contents) × (slice_get b.objects i ≡ Some (p, Some y))
  pub one_object : (i j p : ℕ) (x y : Contents) → slice_get b.objects i ≡ Some (p, Some x)
      → slice_get b.objects j ≡ Some (p, Some y) → i ≡ j
  pub given : (i : ℕ) (h : Handle) (r : Option Ref) → slice_get b.refs i ≡ Some (h, r) → HasBeenGiven b s h
  pub told : (i : ℕ) (h : Handle) (r : Option Ref) → slice_get b.refs i ≡ Some (h, r)
      → RefIsSo b.objects h.kind r (found_in b s h)
  pub one_ref : (i j : ℕ) (h : Handle) (r q : Option Ref) → slice_get b.refs i ≡ Some (h, r)
      → slice_get b.refs j ≡ Some (h, q) → i ≡ j
  pub refs : (h : Handle) → found_in b s h ≢ Stale → (i : ℕ) × (r : Option Ref) × (slice_get b.refs i ≡ Some (h, r))
  pub row : (h : Handle) → s.refs h ≢ Stale → is_local h ≡ false
  pub used : s.used ≡ b.used

-- THE WORLD OF A LEGAL HISTORY IS AS ITS STATE
abbrev pub WorldsAreSo : Type 0
WorldsAreSo = (c : Config) (last : ℕ) (es : History) → IsLegal c last es → IsAs (births es) (state es)
