-- Maps after a change.
use Rattle.std.proofs.Common.{◌≡◌, ◌≢◌, ℕ, Bool, true, false, cond, refl, ap, arith, ◌==◌, ◌&&◌, nat_eq}
use Rattle.std.proofs.lemmas.Bool.Decides.{nat_tests}
use Rattle.jr_word.specs.declared.handle.RefKind.{RefKind}
use Rattle.jr_word.specs.declared.handle.RefKind.TheVariants.{Local, Global, Weak}
use Rattle.jr_model.specs.State.{Handle, same_kind, same_handle}
use Rattle.jr_model.specs.Maps.{update}

-- what holds of x, where the keys are one, and of f j, where they are not, holds of what stands at j
pub update_cases : {K X : Type 0} (same : K → K → Bool) (P : X → Type 0) (f : K → X) (k j : K) (x : X)
    → (same k j ≡ true → P x) → (same k j ≡ false → P (f j)) → P (update same f k x j)
update_cases same P f k j x here there = go (same k j) refl
  where
    go : (b : Bool) → same k j ≡ b → P (cond b x (f j))
    go true e = here e
    go false e = there e

pub eq_true : (k j : ℕ) → (k == j) ≡ true → k ≡ j
eq_true k j e = grind (arith, nat_tests)

pub eq_false : (k j : ℕ) → (k == j) ≡ false → k ≢ j
eq_false k j e = grind (arith, nat_tests)

pub at_number : {X : Type 0} (P : X → Type 0) (f : ℕ → X) (k j : ℕ) (x : X) → (k ≡ j → P x) → (k ≢ j → P (f j))
    → P (update nat_eq f k x j)
at_number P f k j x here there = update_cases nat_eq P f k j x (λ e. here (eq_true k j e)) (λ e. there (eq_false k j e))

pub kind_true : (k l : RefKind) → same_kind k l ≡ true → k ≡ l
kind_true Local Local e = refl
kind_true Global Global e = refl
kind_true Weak Weak e = refl
kind_true Local Global e = cc
kind_true Local Weak e = cc
kind_true Global Local e = cc
kind_true Global Weak e = cc
kind_true Weak Local e = cc
kind_true Weak Global e = cc

pub kind_self : (k : RefKind) → same_kind k k ≡ true
kind_self Local = refl
kind_self Global = refl
kind_self Weak = refl

pub and_left : (a b : Bool) → (a && b) ≡ true → a ≡ true
and_left true b e = refl
and_left false b e = e

pub and_right : (a b : Bool) → (a && b) ≡ true → b ≡ true
and_right true b e = e
and_right false b e = cc

-- handles with the same parts are one
pub same_parts : (k k' : RefKind) (s s' i i' o o' : ℕ) → k ≡ k' → s ≡ s' → i ≡ i' → o ≡ o'
    → ◌≡◌ {A = Handle} (record { kind = k; serial = s; index = i; owner = o })
    (record { kind = k'; serial = s'; index = i'; owner = o' })
same_parts k k' s s' i i' o o' a b c d = cc

pub handle_true : (g h : Handle) → same_handle g h ≡ true → g ≡ h
handle_true g h e =
    let abc =
    and_left (same_kind g.kind h.kind && (g.serial == h.serial) && (g.index == h.index)) (g.owner == h.owner) e in
    let ab = and_left (same_kind g.kind h.kind && (g.serial == h.serial)) (g.index == h.index) abc in
    let kind = kind_true g.kind h.kind (and_left (same_kind g.kind h.kind) (g.serial == h.serial) ab) in
    let serial = eq_true g.serial h.serial (and_right (same_kind g.kind h.kind) (g.serial == h.serial) ab) in
    let index =
    eq_true g.index h.index (and_right (same_kind g.kind h.kind && (g.serial == h.serial)) (g.index == h.index) abc) in
    let owner = eq_true g.owner h.owner
    (and_right (same_kind g.kind h.kind && (g.serial == h.serial) && (g.index == h.index)) (g.owner == h.owner) e) in
    same_parts g.kind h.kind g.serial h.serial g.index h.index g.owner h.owner kind serial index owner

pub eq_self : (k : ℕ) → (k == k) ≡ true
eq_self k = grind (arith, nat_tests)

pub eq_other : (k j : ℕ) → k ≢ j → (k == j) ≡ false
eq_other k j ne = grind (arith, nat_tests)

pub handle_self : (h : Handle) → same_handle h h ≡ true
handle_self h = rw (kind_self h.kind, eq_self h.serial, eq_self h.index, eq_self h.owner) refl

pub handle_false : (g h : Handle) → same_handle g h ≡ false → g ≢ h
handle_false g h e p = let self : same_handle g g ≡ true = handle_self g in cc (ap (same_handle g) p)

pub at_handle : {X : Type 0} (P : X → Type 0) (f : Handle → X) (k j : Handle) (x : X) → (k ≡ j → P x)
    → (k ≢ j → P (f j)) → P (update same_handle f k x j)
at_handle P f k j x here there =
    update_cases same_handle P f k j x (λ e. here (handle_true k j e)) (λ e. there (handle_false k j e))

pub at_number_self : {X : Type 0} (f : ℕ → X) (k : ℕ) (x : X) → update nat_eq f k x k ≡ x
at_number_self f k x = rw (eq_self k) refl

pub at_handle_self : {X : Type 0} (f : Handle → X) (k : Handle) (x : X) → update same_handle f k x k ≡ x
at_handle_self f k x = rw (handle_self k) refl
