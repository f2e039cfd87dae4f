-- Collections that are announced until one gets its turn, and weak references that are deleted where they are cleared.
use Rattle.std.proofs.Common.{◌≡◌, ◌<◌, ◌≤◌, ◌-◌, ◌+◌, ℕ, suc, Bool, true, false, List, Result, Ok, Err, IfErr}
use Rattle.std.proofs.Common.{inl, inr, refl, subst, arith}
use Rattle.std.specs.Result.{IsErrAnd}
use Rattle.jr_word.specs.declared.fault.Fault.{Fault}
use Rattle.jr_word.specs.declared.fault.Fault.TheVariants.{Size}
use Rattle.jr_word.specs.declared.handle.Handle.{Handle as NativeHandle}
use Rattle.jr_word.specs.declared.handle.RefKind.TheVariants.{Weak}
use Rattle.jr_model.specs.Frames.{Frames}
use Rattle.jr_steps.specs.Knowing.{Facts}
use Rattle.jr_weak.specs.declared.collecting.Collected.{Collected}
use Rattle.jr_weak.specs.Listing.{ListsTell}
use Rattle.jr_env.specs.Collections.{IsNoTurn}
use Rattle.jr_env.specs.Deeds.{Deed, DoesOutside, delete_reference, is_same_object}
use Rattle.jr_env.specs.Listings.{listed_announced}
use Rattle.jr_env.specs.Remedies.{MadeUntilServed, deleting_cleared, refused_once, served_now, tried_last}
use Rattle.jr_env.specs.Tries.{made_again}
use Rattle.jr_env.proofs.EnvCalls.{does_more, does_next}
use Rattle.jr_env.proofs.Served.{refused_is}

-- what is left of so many further tries, from the first on
pub all_left : {M A : Type 0} {one : M → Result A Fault → M → Type 0} {old new : M} {answer : Result A Fault} (n : ℕ)
    → MadeUntilServed one (n - 0) old answer new → MadeUntilServed one n old answer new
all_left {one = one} {old = old} {new = new} {answer = answer} n t =
    let e : n - 0 ≡ n = omega arith in subst (λ m. MadeUntilServed one m old answer new) e t

one_more : {M A : Type 0} {one : M → Result A Fault → M → Type 0} {old mid new : M} {answer : Result A Fault}
    (e : Fault) (n k : ℕ) → k < n → one old (Err e) mid → MadeUntilServed one (n - (k + 1)) mid answer new
    → MadeUntilServed one (n - k) old answer new
one_more {one = one} {old = old} {new = new} {answer = answer} _ n k l o t =
    let e : suc (n - (k + 1)) ≡ n - k = omega arith in
    subst (λ m. MadeUntilServed one m old answer new) e (refused_once o t)

the_last : {M A : Type 0} {one : M → Result A Fault → M → Type 0} {old new : M} {answer : Result A Fault} (n k : ℕ)
    → n ≤ k → one old answer new → MadeUntilServed one (n - k) old answer new
the_last {one = one} {old = old} {new = new} {answer = answer} n k l o =
    let e : 0 ≡ n - k = omega arith in subst (λ m. MadeUntilServed one m old answer new) e (tried_last o)

-- what each try does, the whole does
pub until_each : {M A : Type 0} {one two : M → Result A Fault → M → Type 0} {n : ℕ} {old new : M}
    {answer : Result A Fault} → ((p q : M) (r : Result A Fault) → one p r q → two p r q)
    → MadeUntilServed one n old answer new → MadeUntilServed two n old answer new
until_each w (served_now o) = served_now (w _ _ _ o)
until_each w (refused_once o t) = refused_once (w _ _ _ o) (until_each w t)
until_each w (tried_last o) = tried_last (w _ _ _ o)

-- the buffers as they were handed in, where no try before wrote there
pub lists_same : {S : Type 0} {facts : S → Facts} {a b : S} {f g : Frames} (tries : ℕ) (marks : List Bool)
    (hs : List NativeHandle) (ns : List ℕ) (r : Result Collected Fault) {hs' hs'' : List NativeHandle}
    {ns' ns'' : List ℕ} → hs'' ≡ hs' → ns'' ≡ ns'
    → DoesOutside facts a b f g (listed_announced tries marks (ListsTell hs'' ns'' hs ns)) r
    → DoesOutside facts a b f g (listed_announced tries marks (ListsTell hs' ns' hs ns)) r
lists_same {facts = facts} {a = a} {b = b} {f = f} {g = g} tries marks hs ns r e h d =
    subst (λ (z : List NativeHandle × List ℕ). DoesOutside facts a b f g (listed_announced tries marks
    (ListsTell z.0 z.1 hs ns)) r) (λ i. (e i, h i)) d

-- what got no turn was not refused for its marker
pub not_of_size : {A : Type 0} (r : Result A Fault) → IfErr r IsNoTurn → r ≡ Err Size → ⊥
not_of_size r so is = subst (λ x. IfErr x IsNoTurn) is so

module _ {S : Type 0} {facts : S → Facts} {A : Type 0} {deed : Deed A} where
  pub served_at : {a b : S} {f g : Frames} {x : A} (n : ℕ) → DoesOutside facts a b f g deed (Ok x)
      → DoesOutside facts a b f g (MadeUntilServed deed n) (Ok x)
  served_at n d = does_more (λ p q o. served_now o) d

  pub refused_at : {a b c : S} {f g h : Frames} {e : Fault} {answer : Result A Fault} (n k : ℕ) → k < n
      → DoesOutside facts a b f g deed (Err e) → DoesOutside facts b c g h (MadeUntilServed deed (n - (k + 1))) answer
      → DoesOutside facts a c f h (MadeUntilServed deed (n - k)) answer
  refused_at n k l d rest = does_next (λ p m q o t. one_more _ n k l o t) d rest

  pub tried_at : {a b : S} {f g : Frames} {answer : Result A Fault} (n k : ℕ) → n ≤ k
      → DoesOutside facts a b f g deed answer → DoesOutside facts a b f g (MadeUntilServed deed (n - k)) answer
  tried_at n k l d = does_more (λ p q o. the_last n k l o) d

module _ {S : Type 0} {facts : S → Facts} {waits : Bool} {n w : ℕ} where
  -- a weak reference could not be compared
  pub not_compared : {a b : S} {f g : Frames} {e : Fault} (r : Result Bool Fault) → IsErrAnd r (λ y. y ≡ e)
      → DoesOutside facts a b f g (made_again waits n (is_same_object w 0)) (Err e)
      → DoesOutside facts a b f g (deleting_cleared waits n w) r
  not_compared {e = e} r h d = does_more (λ p q x. inr (e, refused_is r h, x)) d

  -- what a comparison told
  told_so : {a b : S} {f g : Frames} {cleared other : Bool} → cleared ≡ other
      → DoesOutside facts a b f g (made_again waits n (is_same_object w 0)) (Ok cleared)
      → DoesOutside facts a b f g (made_again waits n (is_same_object w 0)) (Ok other)
  told_so {a} {b} {f} {g} is d =
      subst (λ x. DoesOutside facts a b f g (made_again waits n (is_same_object w 0)) (Ok x)) is d

  -- it is not cleared
  pub left_alone : {a b : S} {f g : Frames} {cleared : Bool} → cleared ≡ false
      → DoesOutside facts a b f g (made_again waits n (is_same_object w 0)) (Ok cleared)
      → DoesOutside facts a b f g (deleting_cleared waits n w) (Ok false)
  left_alone is d = does_more (λ p q x. inl (false, q, x, (refl, refl))) (told_so is d)

  -- it is, and could not be deleted
  pub not_deleted : {a b c : S} {f g h : Frames} {cleared : Bool} {e : Fault} (r : Result Bool Fault)
      → IsErrAnd r (λ y. y ≡ e) → cleared ≡ true
      → DoesOutside facts a b f g (made_again waits n (is_same_object w 0)) (Ok cleared)
      → DoesOutside facts b c g h (made_again waits n (delete_reference Weak w)) (Err e)
      → DoesOutside facts a c f h (deleting_cleared waits n w) r
  not_deleted {e = e} r h is first second =
      does_next (λ p m q x y. inl (true, m, x, inr (e, refused_is r h, y))) (told_so is first) second

  -- it is, and was deleted
  pub was_deleted : {a b c : S} {f g h : Frames} {cleared : Bool} → cleared ≡ true
      → DoesOutside facts a b f g (made_again waits n (is_same_object w 0)) (Ok cleared)
      → DoesOutside facts b c g h (made_again waits n (delete_reference Weak w)) (Ok tt)
      → DoesOutside facts a c f h (deleting_cleared waits n w) (Ok true)
  was_deleted is first second =
      does_next (λ p m q x y. inl (true, m, x, inl (tt, q, y, (refl, refl)))) (told_so is first) second
