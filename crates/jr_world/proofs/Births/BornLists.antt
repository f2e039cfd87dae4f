-- Lists that grow, or whose elements become others; and what was born earlier, which keeps its place.
use Rattle.std.proofs.Common.{◌≡◌, ◌≤◌, ◌⊎◌, inl, inr, ℕ, zero, suc, Bool, true, false, cond, Option, Some, None}
use Rattle.std.proofs.Common.{List, [], ◌∷◌, ◌++◌, map, length, slice_get, refl, sym, ap, subst, arith}
use Rattle.std.proofs.lemmas.List.{length-append, length-map}
use Rattle.jr_model.specs.declared.event.Act.{Act}
use Rattle.jr_model.specs.declared.event.Act.TheVariants.{Create, Delete, Clear, LocalPut, LocalDrop}
use Rattle.jr_model.specs.declared.event.Event.{Event}
use Rattle.jr_model.specs.State.{Handle, Contents, same_handle}
use Rattle.jr_model.specs.History.{History}
use Rattle.jr_world.specs.World.{Ref}
use Rattle.jr_world.specs.Births.{Births, no_births, gone_where, is_at, emptied}
use Rattle.jr_world.specs.Births.{born_by, births_from, births}

pub by_test : {P : Type 0} (b : Bool) → (b ≡ true → P) → (b ≡ false → P) → P
by_test true t u = t refl
by_test false t u = u refl

pub some_same : {X : Type 0} (x y : X) → ◌≡◌ {A = Option X} (Some x) (Some y) → x ≡ y
some_same x y e = cc

pub get_old : {X : Type 0} (xs ys : List X) (i : ℕ) (z : X) → slice_get xs i ≡ Some z
    → slice_get (xs ++ ys) i ≡ Some z
get_old [] ys i z e = absurd cc
get_old (x ∷ xs) ys zero z e = e
get_old (x ∷ xs) ys (suc i) z e = get_old xs ys i z e

pub get_new : {X : Type 0} (xs : List X) (y : X) → slice_get (xs ++ y ∷ []) (length xs) ≡ Some y
get_new [] y = refl
get_new (x ∷ xs) y = get_new xs y

-- an element of a list with one more is one of before, or the new one
pub get_either : {X : Type 0} (xs : List X) (y : X) (i : ℕ) (z : X) → slice_get (xs ++ y ∷ []) i ≡ Some z
    → (slice_get xs i ≡ Some z) ⊎ (i ≡ length xs) × (y ≡ z)
get_either [] y zero z e = inr (refl, some_same y z e)
get_either [] y (suc i) z e = absurd cc
get_either (x ∷ xs) y zero z e = inl e
get_either (x ∷ xs) y (suc i) z e = go (get_either xs y i z e)
  where
    go : (slice_get xs i ≡ Some z) ⊎ (i ≡ length xs) × (y ≡ z)
        → (slice_get xs i ≡ Some z) ⊎ (suc i ≡ suc (length xs)) × (y ≡ z)
    go (inl h) = inl h
    go (inr h) = inr (ap suc h.0, h.1)

pub get_map : {X Y : Type 0} (f : X → Y) (xs : List X) (i : ℕ) (z : Y) → slice_get (map f xs) i ≡ Some z
    → (x : X) × (slice_get xs i ≡ Some x) × (f x ≡ z)
get_map f [] i z e = absurd cc
get_map f (x ∷ xs) zero z e = (x, refl, some_same (f x) z e)
get_map f (x ∷ xs) (suc i) z e = get_map f xs i z e

pub map_get : {X Y : Type 0} (f : X → Y) (xs : List X) (i : ℕ) (x : X) → slice_get xs i ≡ Some x
    → slice_get (map f xs) i ≡ Some (f x)
map_get f [] i x e = absurd cc
map_get f (y ∷ xs) zero x e = ap (λ z. Some (f z)) (some_same y x e)
map_get f (y ∷ xs) (suc i) x e = map_get f xs i x e

-- what is born in one history and then in another
pub births_append : (b : Births) (xs ys : History) → births_from b (xs ++ ys) ≡ births_from (births_from b xs) ys
births_append b [] ys = refl
births_append b (x ∷ xs) ys = births_append (born_by b x.thread x.act) xs ys

pub births_push : (xs : History) (e : Event) → births (xs ++ e ∷ []) ≡ born_by (births xs) e.thread e.act
births_push xs e = births_append no_births xs (e ∷ [])

-- an entry of this handle at this place, be its reference gone
abbrev pub HasEntry : Births → ℕ → Handle → Type 0
HasEntry b i h = (q : Option Ref) × (slice_get b.refs i ≡ Some (h, q))

-- an entry of this object's number at this place, be the object gone
abbrev pub HasObject : Births → ℕ → ℕ → Type 0
HasObject b i o = (x : Option Contents) × (slice_get b.objects i ≡ Some (o, x))

pub entry_act : (b : Births) (t : ℕ) (a : Act) (i : ℕ) (h : Handle) → HasEntry b i h → HasEntry (born_by b t a) i h
entry_act b t (Create g o) i h e = (e.0, get_old b.refs _ i (h, e.0) e.1)
entry_act b t (Delete g) i h e =
    (_, map_get (λ x. (x.0, cond (same_handle g x.0) None x.1)) b.refs i (h, e.0) e.1)
entry_act b t (Clear g) i h e =
    (_, map_get (λ x. (x.0, cond (same_handle g x.0) (emptied x.1) x.1)) b.refs i (h, e.0) e.1)
entry_act b t (LocalPut p o) i h e = (
  _,
  get_old (gone_where (is_at t p) b.refs) _ i (h, _)
      (map_get (λ x. (x.0, cond (is_at t p x.0) None x.1)) b.refs i (h, e.0) e.1),
)
entry_act b t (LocalDrop p) i h e =
    (_, map_get (λ x. (x.0, cond (is_at t p x.0) None x.1)) b.refs i (h, e.0) e.1)
entry_act b t _ i h e = e

-- an entry stays
pub entry_along : (b : Births) (es : History) (i : ℕ) (h : Handle) → HasEntry b i h → HasEntry (births_from b es) i h
entry_along b [] i h e = e
entry_along b (x ∷ es) i h e = entry_along (born_by b x.thread x.act) es i h (entry_act b x.thread x.act i h e)

-- an entry of a history stays in each that it begins
pub entry_stays : (past rest : History) (i : ℕ) (h : Handle) → HasEntry (births past) i h
    → HasEntry (births (past ++ rest)) i h
entry_stays past rest i h e = subst (λ b. HasEntry b i h) (sym (births_append no_births past rest))
    (entry_along (births past) rest i h e)

-- BIRTHS OF REFERENCES are never fewer

no_fewer : {X : Type 0} (xs ys : List X) → length xs ≤ length (xs ++ ys)
no_fewer xs ys = let more = length-append xs ys in omega arith

as_many : {X Y : Type 0} (f : X → Y) (xs : List X) → length xs ≤ length (map f xs)
as_many f xs = let same = length-map xs f in omega arith

refs_act : (b : Births) (t : ℕ) (a : Act) → length b.refs ≤ length (born_by b t a).refs
refs_act b t (Create g o) = no_fewer b.refs _
refs_act b t (Delete g) = as_many (λ x. (x.0, cond (same_handle g x.0) None x.1)) b.refs
refs_act b t (Clear g) = as_many (λ x. (x.0, cond (same_handle g x.0) (emptied x.1) x.1)) b.refs
refs_act b t (LocalPut p o) =
    let left : length b.refs ≤ length (gone_where (is_at t p) b.refs) =
    as_many (λ x. (x.0, cond (is_at t p x.0) None x.1)) b.refs in
    let all : length (gone_where (is_at t p) b.refs) ≤ length (born_by b t (LocalPut p o)).refs =
    no_fewer (gone_where (is_at t p) b.refs) _ in omega arith
refs_act b t (LocalDrop p) = as_many (λ x. (x.0, cond (is_at t p x.0) None x.1)) b.refs
refs_act b t _ = omega arith

refs_along : (b : Births) (es : History) → length b.refs ≤ length (births_from b es).refs
refs_along b [] = omega arith
refs_along b (x ∷ es) =
    let first = refs_act b x.thread x.act in
    let rest = refs_along (born_by b x.thread x.act) es in omega arith

-- in a history that went on no fewer were born
pub refs_stay : (past rest : History) → length (births past).refs ≤ length (births (past ++ rest)).refs
refs_stay past rest = subst (λ (b : Births). length (births past).refs ≤ length b.refs)
    (sym (births_append no_births past rest)) (refs_along (births past) rest)
