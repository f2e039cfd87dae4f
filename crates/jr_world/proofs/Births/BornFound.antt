-- What is found at a handle by the births, and whether it was given.
use Rattle.std.proofs.Common.{◌≡◌, ◌≢◌, ◌<◌, ◌==◌, ◌&&◌, ℕ, suc, Bool, true, false, cond, nat_eq, Option, Some, None}
use Rattle.std.proofs.Common.{List, ◌++◌, refl, sym, ap, subst, ◌∙◌}
use Rattle.jr_word.specs.declared.handle.RefKind.{RefKind}
use Rattle.jr_word.specs.declared.handle.RefKind.TheVariants.{Local}
use Rattle.jr_model.specs.declared.event.Found.{Found}
use Rattle.jr_model.specs.declared.event.Found.TheVariants.{Object, Cleared, Stale}
use Rattle.jr_model.specs.Maps.{update}
use Rattle.jr_model.specs.State.{Handle, State, Contents, same_kind}
use Rattle.jr_model.specs.Checks.{is_local}
use Rattle.jr_model.proofs.Updates.{eq_true}
use Rattle.jr_world.specs.World.{Ref}
use Rattle.jr_world.specs.Births.{Births, found_at_place, found_in, RefIsSo, HasBeenGiven}
use Rattle.jr_world.proofs.Births.BornLists.{get_old, by_test}

-- WHAT IS TOLD of a reference
pub so_later : (objects more : List (ℕ × Option Contents)) (k : RefKind) (r : Option Ref) (f : Found)
    → RefIsSo objects k r f → RefIsSo (objects ++ more) k r f
so_later objects more k (Some r) (Object p) s = (s.0, s.1, s.2, s.3, get_old objects more s.1 (p, Some s.3) s.4)
so_later objects more k (Some r) Cleared s = s
so_later objects more k (Some r) Stale s = absurd s
so_later objects more k None Stale s = tt
so_later objects more k None (Object p) s = absurd s
so_later objects more k None Cleared s = absurd s

pub so_gone : (objects : List (ℕ × Option Contents)) (k : RefKind) (r : Option Ref) (f f' : Found) (b : Bool)
    → RefIsSo objects k r f → (b ≡ true → f' ≡ Stale) → (b ≡ false → f' ≡ f) → RefIsSo objects k (cond b None r) f'
so_gone objects k r f f' true s t u = subst (RefIsSo objects k None) (sym (t refl)) tt
so_gone objects k r f f' false s t u = subst (RefIsSo objects k r) (sym (u refl)) s

-- what is found at a place
abbrev pub found_at : Births → State → Handle → Found
found_at b s h = cond (suc h.serial == b.puts h.owner h.index) (found_at_place (s.locals h.owner h.index)) Stale

-- a handle of the row
pub found_row : (b : Births) (s : State) (h : Handle) → is_local h ≡ false → found_in b s h ≡ s.refs h
found_row b s h e = ap (λ z. cond z (found_at b s h) (s.refs h)) e

pub found_place : (b : Births) (s : State) (h : Handle) → is_local h ≡ true → found_in b s h ≡ found_at b s h
found_place b s h e = ap (λ z. cond z (found_at b s h) (s.refs h)) e

-- where the reference or the place is alike
pub found_alike : (b b' : Births) (s s' : State) (h : Handle) → (is_local h ≡ true → found_at b' s' h ≡ found_at b s h)
    → (is_local h ≡ false → s'.refs h ≡ s.refs h) → found_in b' s' h ≡ found_in b s h
found_alike b b' s s' h place row = by_test (is_local h)
    (λ l. found_place b' s' h l ∙ (place l ∙ sym (found_place b s h l)))
    (λ l. found_row b' s' h l ∙ (row l ∙ sym (found_row b s h l)))

-- where references and places stay
pub found_same : (b : Births) (s s' : State) (h : Handle) → s'.refs ≡ s.refs → s'.locals ≡ s.locals
    → found_in b s' h ≡ found_in b s h
found_same b s s' h refs locals = found_alike b b s s' h
    (λ l. ap (λ (g : ℕ → ℕ → Option ℕ).
    cond (suc h.serial == b.puts h.owner h.index) (found_at_place (g h.owner h.index)) Stale) locals)
    (λ l. ap (λ (g : Handle → Found). g h) refs)

pub was_row : (b : Births) (s : State) (h : Handle) → is_local h ≡ false → HasBeenGiven b s h → s.given h ≡ true
was_row b s h e w = subst (λ z. cond z (h.serial < b.puts h.owner h.index) (s.given h ≡ true)) e w

pub row_was : (b : Births) (s : State) (h : Handle) → is_local h ≡ false → s.given h ≡ true → HasBeenGiven b s h
row_was b s h e w = subst (λ z. cond z (h.serial < b.puts h.owner h.index) (s.given h ≡ true)) (sym e) w

pub was_place : (b : Births) (s : State) (h : Handle) → is_local h ≡ true → HasBeenGiven b s h
    → h.serial < b.puts h.owner h.index
was_place b s h e w = subst (λ z. cond z (h.serial < b.puts h.owner h.index) (s.given h ≡ true)) e w

pub place_was : (b : Births) (s : State) (h : Handle) → is_local h ≡ true → h.serial < b.puts h.owner h.index
    → HasBeenGiven b s h
place_was b s h e w = subst (λ z. cond z (h.serial < b.puts h.owner h.index) (s.given h ≡ true)) (sym e) w

-- where what was given stays so
pub was_kept : (b : Births) (s s' : State) (h : Handle) → (s.given h ≡ true → s'.given h ≡ true) → HasBeenGiven b s h
    → HasBeenGiven b s' h
was_kept b s s' h given_on w = by_test (is_local h) (λ l. place_was b s' h l (was_place b s h l w))
    (λ l. row_was b s' h l (given_on (was_row b s h l w)))

pub not_local : (h : Handle) → h.kind ≢ Local → is_local h ≡ false
not_local h other = go h.kind refl
  where
    go : (k : RefKind) → h.kind ≡ k → same_kind Local k ≡ false
    go Local is = absurd (other is)
    go _ is = refl

-- A PLACE of a thread, filled anew or left empty
pub at_place : {X : Type 0} (f : ℕ → ℕ → X) (t p : ℕ) (v : X) (u q : ℕ) → ((t == u) && (p == q)) ≡ true
    → update nat_eq f t (update nat_eq (f t) p v) u q ≡ v
at_place f t p v u q e = go (t == u) (p == q) refl e
  where
    go : (x y : Bool) → (p == q) ≡ y → (x && y) ≡ true → cond x (λ j. cond (p == j) v (f t j)) (f u) q ≡ v
    go true true is e = ap (λ z. cond z v (f t q)) is
    go true false is e = absurd cc
    go false y is e = absurd cc

pub off_place : {X : Type 0} (f : ℕ → ℕ → X) (t p : ℕ) (v : X) (u q : ℕ) → ((t == u) && (p == q)) ≡ false
    → update nat_eq f t (update nat_eq (f t) p v) u q ≡ f u q
off_place f t p v u q e = go (t == u) refl (p == q) refl e
  where
    go : (x : Bool) → (t == u) ≡ x → (y : Bool) → (p == q) ≡ y → (x && y) ≡ false
        → cond x (λ j. cond (p == j) v (f t j)) (f u) q ≡ f u q
    go true here true is e = absurd cc
    go true here false is e = ap (λ z. cond z v (f t q)) is ∙ ap (λ z. f z q) (eq_true t u here)
    go false here y is e = refl

pub and_yes : (x y : Bool) → (x && y) ≡ true → (x ≡ true) × (y ≡ true)
and_yes true true e = (refl, refl)
and_yes true false e = absurd cc
and_yes false y e = absurd cc

pub and_no : (x y : Bool) → x ≡ true → (x && y) ≡ false → y ≡ false
and_no true y e f = f
and_no false y e f = absurd cc
