-- A collection leaves of what was born just what the page's sweep leaves.
use Rattle.std.proofs.Common.{◌≡◌, ◌≢◌, ◌⊎◌, inl, inr, ℕ, zero, suc, ◌<◌, ◌+◌, ◌-◌, ◌==◌, ◌&&◌, Bool, true, false}
use Rattle.std.proofs.Common.{cond, not, nat_eq, Option, Some, None, IsSome, is_some, List, [], ◌∷◌, ◌++◌, map, length}
use Rattle.std.proofs.Common.{slice_get, refl, sym, ap, subst, ◌∙◌, arith}
use Rattle.std.specs.List.{AllByRecursion, Contains, IsDistinct, filter, sum_by}
use Rattle.std.proofs.lemmas.List.{length-map, map-append}
use Rattle.std.proofs.lemmas.List.Sums.{sum_by-cons}
use Rattle.jr_word.specs.declared.config.Config.{Config}
use Rattle.jr_word.specs.declared.handle.RefKind.{RefKind}
use Rattle.jr_word.specs.declared.handle.RefKind.TheVariants.{Weak}
use Rattle.jr_model.specs.declared.event.Act.{Act}
use Rattle.jr_model.specs.declared.event.Act.TheVariants.{Clear, Drop, Gate, Meet, Settle, ShutBusy}
use Rattle.jr_model.specs.declared.event.Event.{Event}
use Rattle.jr_model.specs.declared.event.GateAct.TheVariants.{Reopen, Shut}
use Rattle.jr_model.specs.declared.event.Found.{Found}
use Rattle.jr_model.specs.declared.event.Found.TheVariants.{Object, Cleared, Stale}
use Rattle.jr_model.specs.Maps.{update, sum_below}
use Rattle.jr_model.specs.State.{Contents, Handle, IsReached, State, length_of, present_words, same_handle}
use Rattle.jr_model.specs.History.{History, IsLegal, by, is_waiting, mine, state}
use Rattle.jr_model.specs.CollectionCalls.{IsExact, IsToClear, IsToDrop, IsWhole, sweeping_acts}
use Rattle.jr_model.proofs.Counts.{bit, sum_at}
use Rattle.jr_model.proofs.Exactly.{all_map, append_all, collection_is_exact}
use Rattle.jr_model.proofs.Gates.{others_wait}
use Rattle.jr_model.proofs.Histories.{legal_append}
use Rattle.jr_model.proofs.InRoom.{present_is_in_room}
use Rattle.jr_model.proofs.Lengths.{sum_zero}
use Rattle.jr_model.proofs.Updates.{and_left, at_number, at_number_self, eq_false, eq_other, eq_self}
use Rattle.jr_model.proofs.Updates.{eq_true, handle_self, handle_true}
use Rattle.jr_world.specs.World.{Ref, World, how_many, standing}
use Rattle.jr_world.specs.Births.{Births, IsAs, RefIsSo, births, births_from, born_by, emptied, found_in, no_births}
use Rattle.jr_world.proofs.Births.{worlds_are_so}
use Rattle.jr_world.proofs.Births.BornFound.{found_row, not_local}
use Rattle.jr_world.proofs.Births.BornLists.{births_append, some_same}
use Rattle.jr_scripts.specs.Sweeps.{is_found_reached, kept_object, kept_objects, kept_ref, swept, told_of, was_cleared}
use Rattle.jr_scripts.proofs.TogetherRun.PlayedTexts.{world_born}
use Rattle.jr_scripts.proofs.TogetherRun.ReachedBirths.{AreBorn, are_born, by_handle, found_if, found_kept}
use Rattle.jr_scripts.proofs.TogetherRun.ReachedBirths.{same_number}

-- ONE OF SEVERAL
abbrev pub IsOneOf : {A : Type 0} → A → List A → Type 0
IsOneOf x [] = ⊥
IsOneOf x (y ∷ ys) = (y ≡ x) ⊎ IsOneOf x ys

one_of : {A : Type 0} (x : A) (xs : List A) → Contains xs x → IsOneOf x xs
one_of x [] (i, small, is) = absurd (omega arith)
one_of x (y ∷ ys) (zero, small, is) = inl is
one_of x (y ∷ ys) (suc i, small, is) = inr (one_of x ys (i, (omega arith), is))

so_of_one : {A : Type 0} (Q : A → Type 0) (x : A) (xs : List A) → AllByRecursion Q xs → IsOneOf x xs → Q x
so_of_one Q x [] all i = absurd i
so_of_one Q x (y ∷ ys) all (inl e) = subst Q e all.0
so_of_one Q x (y ∷ ys) all (inr i) = so_of_one Q x ys all.1 i

all_so : {A : Type 0} (P Q : A → Type 0) (xs : List A) → ((x : A) → P x → Q x) → AllByRecursion P xs
    → AllByRecursion Q xs
all_so P Q [] f a = tt
all_so P Q (x ∷ xs) f a = (f x a.0, all_so P Q xs f a.1)

-- LISTS whose elements become others
map_same : {A B : Type 0} (f g : A → B) (xs : List A) → ((i : ℕ) (x : A) → slice_get xs i ≡ Some x → f x ≡ g x)
    → map f xs ≡ map g xs
map_same f g [] same = refl
map_same f g (x ∷ xs) same =
    ap (λ y. y ∷ map f xs) (same 0 x refl) ∙ ap (λ l. g x ∷ l) (map_same f g xs (λ i z e. same (suc i) z e))

map_both : {A B C : Type 0} (g : B → C) (f : A → B) (xs : List A) → map g (map f xs) ≡ map (λ x. g (f x)) xs
map_both g f [] = refl
map_both g f (x ∷ xs) = ap (λ l. g (f x) ∷ l) (map_both g f xs)

map_none : {A : Type 0} (xs : List A) → map (λ x. x) xs ≡ xs
map_none [] = refl
map_none (x ∷ xs) = ap (λ l. x ∷ l) (map_none xs)

-- HOW MANY PASS
pub many_next : {A : Type 0} (p : A → Bool) (x : A) (xs : List A) → how_many p (x ∷ xs) ≡ bit (p x) + how_many p xs
many_next p x xs = go (p x)
  where
    go : (b : Bool) → length (cond b (x ∷ filter p xs) (filter p xs)) ≡ bit b + length (filter p xs)
    go true = omega arith
    go false = omega arith

many_map : {A B : Type 0} (p : B → Bool) (f : A → B) (xs : List A) → how_many p (map f xs) ≡ how_many (λ x. p (f x)) xs
many_map p f [] = refl
many_map p f (x ∷ xs) =
    let first = many_next p (f x) (map f xs) in
    let second = many_next (λ y. p (f y)) x xs in
    let rest = many_map p f xs in
    omega (arith, first, second, rest)

many_same : {A : Type 0} (p q : A → Bool) (xs : List A) → ((x : A) → p x ≡ q x) → how_many p xs ≡ how_many q xs
many_same p q [] same = refl
many_same p q (x ∷ xs) same =
    let first = many_next p x xs in
    let second = many_next q x xs in
    let here : bit (p x) ≡ bit (q x) = ap bit (same x) in
    let rest = many_same p q xs same in
    omega (arith, first, second, here, rest)

-- those of one test and of another, as many as of a third
many_parts : {A : Type 0} (p q r : A → Bool) (xs : List A) → ((x : A) → bit (p x) + bit (q x) ≡ bit (r x))
    → how_many p xs + how_many q xs ≡ how_many r xs
many_parts p q r [] same = omega arith
many_parts p q r (x ∷ xs) same =
    let a = many_next p x xs in
    let b = many_next q x xs in
    let d = many_next r x xs in
    let here = same x in
    let rest = many_parts p q r xs same in
    omega (arith, a, b, d, here, rest)

-- those that pass and those that don't
many_all : {A : Type 0} (p : A → Bool) (xs : List A) → how_many p xs + how_many (λ x. not (p x)) xs ≡ length xs
many_all p [] = omega arith
many_all p (x ∷ xs) =
    let a = many_next p x xs in
    let b = many_next (λ y. not (p y)) x xs in
    let here = go (p x) in
    let rest = many_all p xs in
    omega (arith, a, b, here, rest)
  where
    go : (b : Bool) → bit b + bit (not b) ≡ 1
    go true = omega arith
    go false = omega arith

none_pass : {A : Type 0} (p : A → Bool) (xs : List A)
    → ((j : ℕ) (y : A) → slice_get xs j ≡ Some y → p y ≡ true → ⊥) → how_many p xs ≡ 0
none_pass p [] none = refl
none_pass p (x ∷ xs) none =
    let a = many_next p x xs in
    let here = go (p x) refl in
    let rest = none_pass p xs (λ j y e t. none (suc j) y e t) in
    omega (arith, a, here, rest)
  where
    go : (b : Bool) → p x ≡ b → bit (p x) ≡ 0
    go true e = absurd (none 0 x refl e)
    go false e = ap bit e

-- one passes, and no other
one_passes : {A : Type 0} (p : A → Bool) (xs : List A) (i : ℕ) (x : A) → slice_get xs i ≡ Some x → p x ≡ true
    → ((j : ℕ) (y : A) → slice_get xs j ≡ Some y → p y ≡ true → i ≡ j) → how_many p xs ≡ 1
one_passes p [] i x at is one = absurd cc
one_passes p (y ∷ xs) zero x at is one =
    let a = many_next p y xs in
    let here : bit (p y) ≡ 1 = ap bit (ap p (some_same y x at) ∙ is) in
    let rest = none_pass p xs (λ j z e t. (let bad = one (suc j) z e t in absurd (omega (arith, bad)))) in
    omega (arith, a, here, rest)
one_passes p (y ∷ xs) (suc i) x at is one =
    let a = many_next p y xs in
    let here = go (p y) refl in
    let rest = one_passes p xs i x at is (λ j z e t. (let s = one (suc j) z e t in omega (arith, s))) in
    omega (arith, a, here, rest)
  where
    go : (b : Bool) → p y ≡ b → bit (p y) ≡ 0
    go true e = absurd (let bad = one 0 y refl e in omega (arith, bad))
    go false e = ap bit e

-- AN ACT FOR EACH of several, one after the other
abbrev pub each_on : {X E : Type 0} → (X → E → E) → List X → E → E
each_on act [] e = e
each_on act (x ∷ xs) e = each_on act xs (act x e)

module _ {X E : Type 0} (act : X → E → E) (same : X → X → Bool) (hit : X → E → Bool) (p : E → Bool)
    (step : (x : X) (e : E) → bit (p (act x e)) + bit (hit x e) ≡ bit (p e))
    (apart : (x y : X) (e : E) → same x y ≡ false → hit y (act x e) ≡ hit y e) where
  abbrev IsHitOnce : List E → X → Type 0
  IsHitOnce es x = how_many (hit x) es ≡ 1

  hit_still : (x : X) (es : List E) (xs : List X) → AllByRecursion (λ y. same x y ≡ false) xs
      → AllByRecursion (IsHitOnce es) xs → AllByRecursion (IsHitOnce (map (act x) es)) xs
  hit_still x es [] other once = tt
  hit_still x es (y ∷ ys) other once = (
    many_map (hit y) (act x) es
        ∙ (many_same (λ e. hit y (act x e)) (hit y) es (λ e. apart x y e other.0) ∙ once.0),
    hit_still x es ys other.1 once.1,
  )

  -- each takes one of those that pass
  many_left : (xs : List X) (es : List E) → IsDistinct same xs → AllByRecursion (IsHitOnce es) xs
      → how_many p (map (each_on act xs) es) + length xs ≡ how_many p es
  unfolding IsDistinct
  many_left [] es distinct once =
      let none = ap (how_many p) (map_none es) in omega (arith, none)
  many_left (x ∷ xs) es distinct once =
      let rest = many_left xs (map (act x) es) distinct.1 (hit_still x es xs distinct.0 once.1) in
      let both = ap (how_many p) (map_both (each_on act xs) (act x) es) in
      let first = many_map p (act x) es in
      let one = many_parts (λ e. p (act x e)) (hit x) p es (step x) in
      let hits = once.0 in
      omega (arith, rest, both, first, one, hits)

-- AN OBJECT IS DROPPED, where it was born
abbrev pub Born : Type 0
Born = ℕ × Option Contents

abbrev pub drop_one : ℕ → Born → Born
drop_one o e = (e.0, cond (e.0 == o) None e.1)

none_both : {A : Type 0} (b : Bool) (x : A) → cond b x x ≡ x
none_both true x = refl
none_both false x = refl

drop_none : (os : List ℕ) (p : ℕ) → each_on drop_one os (p, None) ≡ (p, None)
drop_none [] p = refl
drop_none (o ∷ os) p = ap (λ x. each_on drop_one os (p, x)) (none_both (p == o) None) ∙ drop_none os p

drop_in : (os : List ℕ) (p : ℕ) (x : Option Contents) → IsOneOf p os → each_on drop_one os (p, x) ≡ (p, None)
drop_in [] p x i = absurd i
drop_in (o ∷ os) p x (inl e) =
    ap (λ b. each_on drop_one os (p, cond b None x)) (ap (λ z. p == z) e ∙ eq_self p) ∙ drop_none os p
drop_in (o ∷ os) p x (inr i) = drop_in os p (cond (p == o) None x) i

drop_out : (os : List ℕ) (p : ℕ) (x : Option Contents) → (IsOneOf p os → ⊥) → each_on drop_one os (p, x) ≡ (p, x)
drop_out [] p x out = refl
drop_out (o ∷ os) p x out =
    ap (λ b. each_on drop_one os (p, cond b None x)) (eq_other p o (λ e. absurd (out (inl (sym e)))))
    ∙ drop_out os p x (λ i. out (inr i))

-- A REFERENCE IS CLEARED
abbrev pub BornRef : Type 0
BornRef = Handle × Option Ref

abbrev pub empty_one : Handle → BornRef → BornRef
empty_one h e = (e.0, cond (same_handle h e.0) (emptied e.1) e.1)

emptied_twice : (r : Option Ref) → emptied (emptied r) ≡ emptied r
emptied_twice None = refl
emptied_twice (Some r) = refl

empty_none : (hs : List Handle) (g : Handle) (r : Option Ref) → emptied r ≡ r → each_on empty_one hs (g, r) ≡ (g, r)
empty_none [] g r same = refl
empty_none (h ∷ hs) g r same =
    ap (λ x. each_on empty_one hs (g, x)) (ap (λ z. cond (same_handle h g) z r) same ∙ none_both (same_handle h g) r)
    ∙ empty_none hs g r same

empty_in : (hs : List Handle) (g : Handle) (r : Option Ref) → IsOneOf g hs
    → each_on empty_one hs (g, r) ≡ (g, emptied r)
empty_in [] g r i = absurd i
empty_in (h ∷ hs) g r (inl e) =
    ap (λ b. each_on empty_one hs (g, cond b (emptied r) r)) (ap (λ z. same_handle z g) e ∙ handle_self g)
    ∙ empty_none hs g (emptied r) (emptied_twice r)
empty_in (h ∷ hs) g r (inr i) = empty_in hs g (cond (same_handle h g) (emptied r) r) i
    ∙ ap (λ z. (g, z)) (go (same_handle h g))
  where
    go : (b : Bool) → emptied (cond b (emptied r) r) ≡ emptied r
    go true = emptied_twice r
    go false = refl

empty_out : (hs : List Handle) (g : Handle) (r : Option Ref) → (IsOneOf g hs → ⊥) → each_on empty_one hs (g, r) ≡ (g, r)
empty_out [] g r out = refl
empty_out (h ∷ hs) g r out = ap (λ b. each_on empty_one hs (g, cond b (emptied r) r)) (other (same_handle h g) refl)
    ∙ empty_out hs g r (λ i. out (inr i))
  where
    other : (b : Bool) → same_handle h g ≡ b → same_handle h g ≡ false
    other true e = absurd (out (inl (handle_true h g e)))
    other false e = e

-- WHAT IS BORN BY THE ACTS of a collection
abbrev pub births_swept : Births → List Handle → List ℕ → ℕ → Births
births_swept b cleared dropped used = record {
  objects = map (each_on drop_one dropped) b.objects;
  refs = map (each_on empty_one cleared) b.refs;
  puts = b.puts;
  used = used;
}

born_clears : (b : Births) (t : ℕ) (hs : List Handle)
    → births_from b (map (by t) (map Clear hs)) ≡ record b { refs = map (each_on empty_one hs) b.refs }
born_clears b t [] = ap (λ l. record b { refs = l }) (sym (map_none b.refs))
born_clears b t (h ∷ hs) = born_clears (record b { refs = map (empty_one h) b.refs }) t hs
    ∙ ap (λ l. record b { refs = l }) (map_both (each_on empty_one hs) (empty_one h) b.refs)

born_drops : (b : Births) (t : ℕ) (os : List ℕ)
    → births_from b (map (by t) (map Drop os)) ≡ record b { objects = map (each_on drop_one os) b.objects }
born_drops b t [] = ap (λ l. record b { objects = l }) (sym (map_none b.objects))
born_drops b t (o ∷ os) = born_drops (record b { objects = map (drop_one o) b.objects }) t os
    ∙ ap (λ l. record b { objects = l }) (map_both (each_on drop_one os) (drop_one o) b.objects)

pub born_sweep : (b : Births) (t : ℕ) (cleared : List Handle) (dropped : List ℕ) (used : ℕ)
    → births_from b (map (by t) (sweeping_acts cleared dropped used)) ≡ births_swept b cleared dropped used
born_sweep b t cleared dropped used =
    ap (births_from b) (map-append (by t) (map Clear cleared ++ map Drop dropped) (Settle used ∷ [])
    ∙ ap (λ l. l ++ by t (Settle used) ∷ []) (map-append (by t) (map Clear cleared) (map Drop dropped)))
    ∙ (births_append b (map (by t) (map Clear cleared) ++ map (by t) (map Drop dropped)) (by t (Settle used) ∷ [])
    ∙ ap (λ (z : Births). record z { used = used }) (
    births_append b (map (by t) (map Clear cleared)) (map (by t) (map Drop dropped))
    ∙ (ap (λ z. births_from z (map (by t) (map Drop dropped))) (born_clears b t cleared)
    ∙ born_drops (record b { refs = map (each_on empty_one cleared) b.refs }) t dropped)))

-- FOR EACH OBJECT, none where it isn't reached
kept_list : {N : Type 0} (f : N × Option Contents → N × Option Contents) (reached : ℕ → Bool) (n : ℕ)
    (xs : List (N × Option Contents))
    → ((i k : ℕ) (e : N × Option Contents) → k ≡ n + i → slice_get xs i ≡ Some e
    → (f e).1 ≡ cond (reached k) e.1 None)
    → map (λ e. e.1) (map f xs) ≡ kept_objects reached n (map (λ e. e.1) xs)
kept_list f reached n [] each = refl
kept_list f reached n (x ∷ xs) each =
    ap (λ y. y ∷ map (λ e. e.1) (map f xs)) (each 0 n x (omega arith) refl)
    ∙ ap (λ l. cond (reached n) x.1 None ∷ l)
    (kept_list f reached (suc n) xs (λ i k e is at. each (suc i) k e (omega (arith, is)) at))

-- a reference that names an object
abbrev pub names_one : Option Ref → Bool
names_one None = false
names_one (Some r) = is_some r.object

abbrev is_here : ℕ → Born → Bool
is_here o e = is_some e.1 && (e.0 == o)

abbrev is_named : Handle → BornRef → Bool
is_named h e = same_handle h e.0 && names_one e.1

drop_step : (o : ℕ) (e : Born) → bit (is_some (drop_one o e).1) + bit (is_here o e) ≡ bit (is_some e.1)
drop_step o (p, None) = ap (λ x. bit (is_some x) + 0) (none_both (p == o) None)
drop_step o (p, Some x) = go (p == o)
  where
    go : (b : Bool) → bit (is_some (cond b None (Some x))) + bit b ≡ 1
    go true = omega arith
    go false = omega arith

drop_apart : (o p : ℕ) (e : Born) → (o == p) ≡ false → is_here p (drop_one o e) ≡ is_here p e
drop_apart o p (q, None) ne = ap (λ x. is_some x && (q == p)) (none_both (q == o) None)
drop_apart o p (q, Some x) ne = go (q == o) refl
  where
    other : (q ≡ o) → false ≡ (q == p)
    other same = sym (ap (λ z. z == p) same ∙ ne)

    go : (b : Bool) → (q == o) ≡ b → (is_some (cond b None (Some x)) && (q == p)) ≡ (q == p)
    go true e = other (eq_true q o e)
    go false e = refl

clear_step : (h : Handle) (e : BornRef)
    → bit (not (was_cleared (empty_one h e).1)) + bit (is_named h e) ≡ bit (not (was_cleared e.1))
clear_step h (g, None) = go (same_handle h g)
  where
    go : (b : Bool) → bit (not (was_cleared (cond b None None))) + bit (b && false) ≡ 1
    go true = refl
    go false = refl
clear_step h (g, Some r) = go (same_handle h g) r.object
  where
    go : (b : Bool) (x : Option ℕ)
        → bit (not (was_cleared (cond b (Some (record { kind = r.kind; object = None }))
        (Some (record { kind = r.kind; object = x }))))) + bit (b && is_some x)
        ≡ bit (not (not (is_some x)))
    go true None = omega arith
    go true (Some o) = omega arith
    go false None = omega arith
    go false (Some o) = omega arith

clear_apart : (h g : Handle) (e : BornRef) → same_handle h g ≡ false → is_named g (empty_one h e) ≡ is_named g e
clear_apart h g (f, r) ne = go (same_handle h f) refl (same_handle g f) refl
  where
    go : (b : Bool) → same_handle h f ≡ b → (d : Bool) → same_handle g f ≡ d
        → (same_handle g f && names_one (cond b (emptied r) r)) ≡ (same_handle g f && names_one r)
    go false e d e' = refl
    go true e true e' = absurd (let same : h ≡ g = handle_true h f e ∙ sym (handle_true g f e') in
        let bad = sym (ap (λ z. same_handle z g) same ∙ handle_self g) ∙ ne in cc)
    go true e false e' = ap (λ z. z && names_one (emptied r)) e' ∙ sym (ap (λ z. z && names_one r) e')

some_of : {A : Type 0} (x : Option A) → IsSome x → (y : A) × (x ≡ Some y)
some_of (Some y) e = (y, refl)
some_of None e = absurd cc

-- WHERE EXACTLY what is to be is cleared and dropped
module _ (b : Births) (s : State) (a : AreBorn b s) (cleared : List Handle) (dropped : List ℕ)
    (exact : IsExact s cleared dropped) where
  abbrev w : World
  w = world_born b

  abbrev reached : ℕ → Bool
  reached = is_found_reached w

  drop_at : (i : ℕ) (e : Born) → slice_get b.objects i ≡ Some e
      → (each_on drop_one dropped e).1 ≡ cond (reached i) e.1 None
  drop_at i (p, None) at = ap (λ (z : Born). z.1) (drop_none dropped p) ∙ sym (none_both (reached i) None)
  drop_at i (p, Some y) at = go (reached i) refl
    where
      there : IsSome (s.objects p)
      there = subst IsSome (sym (a.alike.contents i p y at).1) refl

      go : (d : Bool) → reached i ≡ d → (each_on drop_one dropped (p, Some y)).1 ≡ cond d (Some y) None
      go true e = ap (λ (z : Born). z.1) (drop_out dropped p (Some y)
          (λ is. (so_of_one (IsToDrop s) p dropped exact.drops_only is).1 (found_kept b s a i e p y at)))
      go false e = ap (λ (z : Born). z.1) (drop_in dropped p (Some y) (one_of p dropped (exact.whole.drops p
          (there, λ r. absurd (let bad = sym (found_if b s a i p y at r) ∙ e in cc)))))

  abbrev IsLeft : Handle → Ref → Type 0
  IsLeft h r = (each_on empty_one cleared (h, Some r)).1 ≡ kept_ref reached (Some r)

  keep_at : (i : ℕ) (e : BornRef) → slice_get b.refs i ≡ Some e
      → (each_on empty_one cleared e).1 ≡ kept_ref reached e.1
  keep_at i (h, None) at = ap (λ (z : BornRef). z.1) (empty_none cleared h None refl)
  keep_at i (h, Some r) at = go (found_in b s h) refl (a.alike.told i h (Some r) at)
    where
      row_is : h.kind ≡ Weak → found_in b s h ≡ s.refs h
      row_is e = found_row b s h (not_local h (λ z. absurd (let bad = sym e ∙ z in cc)))

      same_object : (p q : ℕ) → ◌≡◌ {A = Found} (Object p) (Object q) → p ≡ q
      same_object p q e = cc

      named : (p o : ℕ) (x : Contents) → found_in b s h ≡ Object p → r.object ≡ Some o
          → slice_get b.objects o ≡ Some (p, Some x) → (d : Bool) → reached o ≡ d → IsLeft h r
      named p o x is object there true e =
          ap (λ (z : BornRef). z.1) (empty_out cleared h (Some r) (λ one.
          let t = so_of_one (IsToClear s) h cleared exact.clears_only one in
          t.3 (subst (IsReached s) (same_object p t.1 (sym is ∙ (row_is t.0 ∙ t.2)))
          (found_kept b s a o e p x there))))
          ∙ ap (λ z. Some (record r { object = z })) (sym (ap (kept_object reached) object
          ∙ (ap (λ d. cond d (Some o) None) e ∙ sym object)))
      named p o x is object there false e = by_kind h.kind refl
        where
          not_reached : IsReached s p → ⊥
          not_reached z = absurd (let bad = sym (found_if b s a o p x there z) ∙ e in cc)

          by_kind : (k : RefKind) → h.kind ≡ k → IsLeft h r
          by_kind Weak kind =
              ap (λ (z : BornRef). z.1) (empty_in cleared h (Some r) (one_of h cleared (exact.whole.clears h
              (kind, p, sym (row_is kind) ∙ is, not_reached))))
              ∙ ap (λ z. Some (record r { object = z })) (sym (ap (kept_object reached) object
              ∙ ap (λ d. cond d (Some o) None) e))
          by_kind k kind = absurd (not_reached (by_handle b s a h p (λ z. absurd (let bad = sym kind ∙ z in cc)) is
              (subst IsSome (sym (a.alike.contents o p x there).1) refl)))

      go : (l : Found) → found_in b s h ≡ l → RefIsSo b.objects h.kind (Some r) l → IsLeft h r
      go (Object p) is so = named p so.1 so.3 is so.2 so.4 (reached so.1) refl
      go Cleared is so =
          ap (λ (z : BornRef). z.1)
          (empty_none cleared h (Some r) (ap (λ z. Some (record r { object = z })) (sym so.1)))
          ∙ ap (λ z. Some (record r { object = z })) (so.1 ∙ sym (ap (kept_object reached) so.1))
      go Stale is so = absurd so

  pub objects_swept : map (λ e. e.1) (map (each_on drop_one dropped) b.objects) ≡ kept_objects reached 0 w.objects
  objects_swept = kept_list (each_on drop_one dropped) reached 0 b.objects
      (λ i k e is at. drop_at i e at ∙ ap (λ z. cond (reached z) e.1 None) (omega (arith, is)))

  pub refs_swept : map (λ e. e.1) (map (each_on empty_one cleared) b.refs) ≡ map (kept_ref reached) w.refs
  refs_swept = map_both (λ e. e.1) (each_on empty_one cleared) b.refs
      ∙ (map_same (λ e. (each_on empty_one cleared e).1) (λ e. kept_ref reached e.1) b.refs keep_at
      ∙ sym (map_both (kept_ref reached) (λ e. e.1) b.refs))

  -- HOW MUCH
  one_here : (o : ℕ) → IsToDrop s o → how_many (is_here o) b.objects ≡ 1
  one_here o t =
      let x = some_of (s.objects o) t.0 in
      let at = a.alike.objects o x.0 x.1 in
      one_passes (is_here o) b.objects at.0 (o, Some at.1) at.2 (eq_self o)
      (λ j e at' pass. other at.0 at.1 at.2 j e at' pass)
    where
      other : (i : ℕ) (x : Contents) → slice_get b.objects i ≡ Some (o, Some x) → (j : ℕ) (e : Born)
          → slice_get b.objects j ≡ Some e → is_here o e ≡ true → i ≡ j
      other i x at j (q, None) at' pass = absurd cc
      other i x at j (q, Some y) at' pass = a.alike.one_object i j o x y at
          (at' ∙ ap (λ z. Some (z, Some y)) (eq_true q o pass))

  one_named : (h : Handle) → IsToClear s h → how_many (is_named h) b.refs ≡ 1
  one_named h t =
      let is = found_row b s h (not_local h (λ z. absurd (let bad = sym t.0 ∙ z in cc))) ∙ t.2 in
      let at = a.alike.refs h (λ e. absurd (let bad = sym is ∙ e in cc)) in
      let so = subst (RefIsSo b.objects h.kind at.1) is (a.alike.told at.0 h at.1 at.2) in
      one_passes (is_named h) b.refs at.0 (h, at.1) at.2
      (ap (λ d. d && names_one at.1) (handle_self h) ∙ names at.1 so)
      (λ j e at' pass. a.alike.one_ref at.0 j h at.1 e.1 at.2
      (at' ∙ ap (λ z. Some (z, e.1)) (sym (handle_true h e.0 (and_left (same_handle h e.0) (names_one e.1) pass)))))
    where
      names : (r : Option Ref) → RefIsSo b.objects h.kind r (Object t.1) → names_one r ≡ true
      names None so = absurd so
      names (Some r) so = ap is_some so.2

  pub dropped_many : standing w.objects - standing (kept_objects reached 0 w.objects) ≡ length dropped
  dropped_many =
      let old = many_map is_some (λ (e : Born). e.1) b.objects in
      let new = many_map is_some (λ (e : Born). e.1) (map (each_on drop_one dropped) b.objects) in
      let same = ap standing objects_swept in
      let left = many_left drop_one nat_eq is_here (λ e. is_some e.1) drop_step drop_apart dropped b.objects
      exact.drops_once (all_so (IsToDrop s) (λ o. how_many (is_here o) b.objects ≡ 1) dropped one_here
      exact.drops_only) in
      omega (arith, old, new, same, left)

  pub cleared_many : how_many was_cleared (map (kept_ref reached) w.refs) - how_many was_cleared w.refs ≡ length cleared
  cleared_many =
      let after = map (each_on empty_one cleared) b.refs in
      let old = many_map was_cleared (λ (e : BornRef). e.1) b.refs in
      let new = many_map was_cleared (λ (e : BornRef). e.1) after in
      let same = ap (how_many was_cleared) refs_swept in
      let all_old = many_all (λ (e : BornRef). was_cleared e.1) b.refs in
      let all_new = many_all (λ (e : BornRef). was_cleared e.1) after in
      let long = length-map b.refs (each_on empty_one cleared) in
      let left = many_left empty_one same_handle is_named (λ e. not (was_cleared e.1)) clear_step clear_apart cleared
      b.refs exact.clears_once (all_so (IsToClear s) (λ h. how_many (is_named h) b.refs ≡ 1) cleared one_named
      exact.clears_only) in
      omega (arith, old, new, same, all_old, all_new, long, left)

  -- THE WORLD THEN, where as many words are used as are left
  pub world_swept : (used : ℕ) → used ≡ sum_by length_of (kept_objects reached 0 w.objects)
      → world_born (births_swept b cleared dropped used) ≡ swept reached w
  world_swept used is =
      λ i. record { objects = objects_swept i; refs = refs_swept i; frames = []; used = is i }

  pub told_swept : (used : ℕ) → used ≡ sum_by length_of (kept_objects reached 0 w.objects)
      → told_of w (swept reached w) ≡ record { cleared = length cleared; dropped = length dropped; used = used }
  told_swept used is = λ i. record { cleared = cleared_many i; dropped = dropped_many i; used = sym is i }

-- what is gone is none that stands
not_gone : (q p : ℕ) (x : Contents) → ◌≡◌ {A = Option Born} (Some (q, None)) (Some (p, Some x)) → ⊥
not_gone q p x e = absurd (let bad = ap stands e in cc)
  where
    stands : Option Born → Bool
    stands None = false
    stands (Some z) = is_some z.1

-- WHAT IS COUNTED of births that stand is counted of what is there
module _ (g : Option Contents → ℕ) (none : g None ≡ 0) where
  record AreMatched (xs : List Born) (n : ℕ) (there : ℕ → Option Contents) : Type 0 where
    below : (i p : ℕ) (x : Contents) → slice_get xs i ≡ Some (p, Some x) → p < n
    same : (i p : ℕ) (x : Contents) → slice_get xs i ≡ Some (p, Some x) → g (there p) ≡ g (Some x)
    apart : (i j p : ℕ) (x y : Contents) → slice_get xs i ≡ Some (p, Some x) → slice_get xs j ≡ Some (p, Some y) → i ≡ j
    all : (p : ℕ) → IsSome (there p) → (i : ℕ) × (x : Contents) × (slice_get xs i ≡ Some (p, Some x))

  nothing_there : (x : Option Contents) → (IsSome x → ⊥) → g x ≡ 0
  nothing_there None gone = none
  nothing_there (Some x) gone = absurd (gone refl)

  sum_matched : (xs : List Born) (n : ℕ) (there : ℕ → Option Contents) → AreMatched xs n there
      → sum_below n (λ p. g (there p)) ≡ sum_by g (map (λ e. e.1) xs)
  sum_matched [] n there m = sum_zero n (λ p. g (there p))
      (λ p. nothing_there (there p) (λ some. let bad = (m.all p some).2 in absurd cc))
  sum_matched ((q, None) ∷ xs) n there m =
      let rest = sum_matched xs n there (record {
        below = λ i p x at. m.below (suc i) p x at;
        same = λ i p x at. m.same (suc i) p x at;
        apart = λ i j p x y at at'. (let e = m.apart (suc i) (suc j) p x y at at' in omega (arith, e));
        all = λ p some. go p (m.all p some);
      }) in
      let first = sum_by-cons g None (map (λ e. e.1) xs) in
      omega (arith, rest, first, none)
    where
      go : (p : ℕ) → (i : ℕ) × (x : Contents) × (slice_get ((q, None) ∷ xs) i ≡ Some (p, Some x))
          → (i : ℕ) × (x : Contents) × (slice_get xs i ≡ Some (p, Some x))
      go p (zero, x, at) = absurd (not_gone q p x at)
      go p (suc i, x, at) = (i, x, at)
  sum_matched ((q, Some z) ∷ xs) n there m =
      let rest = sum_matched xs n less (record {
        below = λ i p x at. m.below (suc i) p x at;
        same = λ i p x at. ap g (stays p (other i p x at)) ∙ m.same (suc i) p x at;
        apart = λ i j p x y at at'. (let e = m.apart (suc i) (suc j) p x y at at' in omega (arith, e));
        all = λ p. at_number (λ y. IsSome y → (i : ℕ) × (x : Contents) × (slice_get xs i ≡ Some (p, Some x))) there q p
            None (λ e some. absurd cc) (λ ne some. go p ne (m.all p some));
      }) in
      let first = sum_by-cons g (Some z) (map (λ e. e.1) xs) in
      let here : g (there q) ≡ g (Some z) = m.same 0 q z refl in
      let gone : g (less q) ≡ 0 = ap g (at_number_self there q None) ∙ none in
      let both = sum_at n (λ p. g (there p)) (λ p. g (less p)) q (m.below 0 q z refl) (λ j ne. ap g (stays j ne)) in
      omega (arith, rest, first, here, gone, both)
    where
      less : ℕ → Option Contents
      less = update nat_eq there q None

      stays : (j : ℕ) → q ≢ j → less j ≡ there j
      stays j ne = at_number (λ y. y ≡ there j) there q j None (λ e. absurd (ne e)) (λ ne'. refl)

      other : (i p : ℕ) (x : Contents) → slice_get xs i ≡ Some (p, Some x) → q ≢ p
      other i p x at e =
          let bad : 0 ≡ suc i = m.apart 0 (suc i) p z x (ap (λ v. Some (v, Some z)) e) at in absurd (omega (arith, bad))

      go : (p : ℕ) → q ≢ p → (i : ℕ) × (x : Contents) × (slice_get ((q, Some z) ∷ xs) i ≡ Some (p, Some x))
          → (i : ℕ) × (x : Contents) × (slice_get xs i ≡ Some (p, Some x))
      go p ne (zero, x, at) = absurd (ne (same_number q p (Some z) (Some x) at))
      go p ne (suc i, x, at) = (i, x, at)

-- AS MANY WORDS stand as are present
pub born_words : (c : Config) (last : ℕ) (es : History) → IsLegal c last es
    → sum_by length_of (world_born (births es)).objects ≡ present_words c (state es)
born_words c last es legal = sym (sum_matched length_of refl (births es).objects (c.objects + 1) (state es).objects
    (record {
      below = λ i p x at. (let most = (present_is_in_room c last es p legal (subst IsSome
          (sym (are.contents i p x at).1) refl)).1 in omega (arith, most));
      same = λ i p x at. let y = are.contents i p x at in ap length_of y.1 ∙ sym y.2.long;
      apart = are.one_object;
      all = λ p some. let x = some_of ((state es).objects p) some in are.objects p x.0 x.1;
    }))
  where
    are : IsAs (births es) (state es)
    are = worlds_are_so c last es legal

-- OTHERS WAIT meanwhile, by which nothing is born
waiting_bears : (b : Births) (u : ℕ) (a : Act) → is_waiting a ≡ true → born_by b u a ≡ b
waiting_bears b u (Gate g) waits = refl
waiting_bears b u (ShutBusy n) waits = refl
waiting_bears b u Meet waits = refl
waiting_bears b u _ waits = absurd cc

pub own_births : (b : Births) (t : ℕ) (es : History)
    → AllByRecursion (λ (e : Event). (e.thread ≡ t) ⊎ (is_waiting e.act ≡ true)) es
    → births_from b es ≡ births_from b (map (by t) (mine es t))
own_births b t [] all = refl
own_births b t (e ∷ es) all = go (e.thread == t) refl all.0 (λ z. own_births z t es all.1)
  where
    then_own : (d : Bool) → (e.thread == t) ≡ d
        → births_from b (map (by t) (cond d (e.act ∷ mine es t) (mine es t)))
        ≡ births_from b (map (by t) (mine (e ∷ es) t))
    then_own d is = ap (λ z. births_from b (map (by t) (cond z (e.act ∷ mine es t) (mine es t)))) (sym is)

    go : (d : Bool) → (e.thread == t) ≡ d → (e.thread ≡ t) ⊎ (is_waiting e.act ≡ true)
        → ((z : Births) → births_from z es ≡ births_from z (map (by t) (mine es t)))
        → births_from b (e ∷ es) ≡ births_from b (map (by t) (mine (e ∷ es) t))
    go true is other on = ap (λ u. births_from (born_by b u e.act) es) (eq_true e.thread t is)
        ∙ (on (born_by b t e.act) ∙ then_own true is)
    go false is (inl same) on = absurd (eq_false e.thread t is same)
    go false is (inr waits) on = ap (λ z. births_from z es) (waiting_bears b e.thread e.act waits)
        ∙ (on b ∙ then_own false is)

-- the thread doesn't reopen the gate
no_reopen : (t : ℕ) (es : History) → AllByRecursion (λ a. a ≢ Gate Reopen) (mine es t)
    → AllByRecursion (λ e. e ≢ by t (Gate Reopen)) es
no_reopen t [] all = tt
no_reopen t (e ∷ es) all = go (e.thread == t) refl all (no_reopen t es)
  where
    go : (d : Bool) → (e.thread == t) ≡ d
        → AllByRecursion (λ a. a ≢ Gate Reopen) (cond d (e.act ∷ mine es t) (mine es t))
        → (AllByRecursion (λ a. a ≢ Gate Reopen) (mine es t) → AllByRecursion (λ f. f ≢ by t (Gate Reopen)) es)
        → AllByRecursion (λ f. f ≢ by t (Gate Reopen)) (e ∷ es)
    go true is own on = ((λ same. own.0 (ap (λ (f : Event). f.act) same)), on own.1)
    go false is own on = ((λ same. eq_false e.thread t is (ap (λ (f : Event). f.thread) same)), on own)

sweep_opens_not : (cleared : List Handle) (dropped : List ℕ) (used : ℕ)
    → AllByRecursion (λ a. a ≢ Gate Reopen) (sweeping_acts cleared dropped used)
sweep_opens_not cleared dropped used = append_all (λ a. a ≢ Gate Reopen) (map Clear cleared ++ map Drop dropped)
    (Settle used ∷ []) (append_all (λ a. a ≢ Gate Reopen) (map Clear cleared) (map Drop dropped)
    (all_map (λ a. a ≢ Gate Reopen) Clear cleared (λ h e. absurd cc))
    (all_map (λ a. a ≢ Gate Reopen) Drop dropped (λ o e. absurd cc))) ((λ e. absurd cc), tt)

-- A COLLECTION LEAVES what the page's sweep leaves, and tells as much
pub record SweepsTo (b b' : Births) (cleared : List Handle) (dropped : List ℕ) (used : ℕ) : Type 0 where
  pub births_are : b' ≡ births_swept b cleared dropped used
  pub world : world_born b' ≡ swept (is_found_reached (world_born b)) (world_born b)
  pub told : told_of (world_born b) (swept (is_found_reached (world_born b)) (world_born b))
      ≡ record { cleared = length cleared; dropped = length dropped; used = used }

pub collection_sweeps : (c : Config) (last t : ℕ) (before inside rest : History) (cleared : List Handle)
    (dropped : List ℕ) (used : ℕ)
    → IsLegal c last (before ++ by t (Gate Shut) ∷ inside ++ by t (Gate Reopen) ∷ rest)
    → mine inside t ≡ sweeping_acts cleared dropped used → IsWhole (state before) cleared dropped
    → SweepsTo (births before) (births (before ++ by t (Gate Shut) ∷ inside)) cleared dropped used
collection_sweeps c last t before inside rest cleared dropped used legal own whole =
    let front = ((legal_append c last (before ++ by t (Gate Shut) ∷ inside) (by t (Gate Reopen) ∷ rest)).0 legal).0 in
    let first = ((legal_append c last before (by t (Gate Shut) ∷ inside)).0 front).0 in
    let law = collection_is_exact c last t before inside rest cleared dropped used legal own whole in
    let born = are_born c last before first in
    let waits = others_wait c last t (before ++ by t (Gate Shut) ∷ inside ++ by t (Gate Reopen) ∷ rest) before inside
    (by t (Gate Reopen) ∷ rest) legal (record {
      parts = refl;
      stays = no_reopen t inside (subst (AllByRecursion (λ a. a ≢ Gate Reopen)) (sym own)
          (sweep_opens_not cleared dropped used));
      ends = refl;
    }) in
    let is : births (before ++ by t (Gate Shut) ∷ inside) ≡ births_swept (births before) cleared dropped used =
    births_append no_births before (by t (Gate Shut) ∷ inside)
    ∙ (own_births (births before) t inside waits
    ∙ (ap (λ acts. births_from (births before) (map (by t) acts)) own
    ∙ born_sweep (births before) t cleared dropped used)) in
    let words : used ≡ sum_by length_of (kept_objects (is_found_reached (world_born (births before))) 0
    (world_born (births before)).objects) =
    sym law.1.words_are ∙ (sym (born_words c last (before ++ by t (Gate Shut) ∷ inside) front)
    ∙ (ap (λ b. sum_by length_of (world_born b).objects) is
    ∙ ap (sum_by length_of) (objects_swept (births before) (state before) born cleared dropped law.0))) in
    record {
      births_are = is;
      world = ap world_born is
          ∙ world_swept (births before) (state before) born cleared dropped law.0 used words;
      told = told_swept (births before) (state before) born cleared dropped law.0 used words;
    }
