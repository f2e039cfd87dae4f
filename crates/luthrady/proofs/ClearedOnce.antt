-- Weak references that are deleted where they are cleared, for whatever was known.
use Rattle.std.proofs.Common.{◌≡◌, ℕ, Bool, true, false, Result, Ok, Err, inl, inr, refl, subst}
use Rattle.std.specs.Result.{IsErrAnd}
use Rattle.jr_word.specs.declared.fault.Fault.{Fault}
use Rattle.jr_word.specs.declared.handle.RefKind.TheVariants.{Weak}
use Rattle.jr_model.specs.Frames.{Frames}
use Rattle.jr_steps.specs.Knowing.{Facts}
use Rattle.jr_env.specs.Deeds.{DoesOutside, delete_reference, is_same_object}
use Rattle.jr_env.proofs.EnvCalls.{does_more, does_next}
use Rattle.jr_env.proofs.Served.{refused_is}
use Rattle.luthrady.specs.Clearing.{deleting_if_cleared}

module _ {S : Type 0} {facts : S → Facts} {w : ℕ} where
  -- a weak reference could not be compared
  pub not_compared : {a b : S} {f g : Frames} {e : Fault} (r : Result Bool Fault) → IsErrAnd r (λ y. y ≡ e)
      → DoesOutside facts a b f g (is_same_object w 0) (Err e)
      → DoesOutside facts a b f g (deleting_if_cleared w) r
  not_compared {e = e} r h d = does_more (λ p q x. inr (e, refused_is r h, x)) d

  -- what a comparison told
  told_so : {a b : S} {f g : Frames} {cleared other : Bool} → cleared ≡ other
      → DoesOutside facts a b f g (is_same_object w 0) (Ok cleared)
      → DoesOutside facts a b f g (is_same_object w 0) (Ok other)
  told_so {a} {b} {f} {g} is d = subst (λ x. DoesOutside facts a b f g (is_same_object w 0) (Ok x)) is d

  -- it is not cleared
  pub left_alone : {a b : S} {f g : Frames} {cleared : Bool} → cleared ≡ false
      → DoesOutside facts a b f g (is_same_object w 0) (Ok cleared)
      → DoesOutside facts a b f g (deleting_if_cleared w) (Ok false)
  left_alone is d = does_more (λ p q x. inl (false, q, x, (refl, refl))) (told_so is d)

  -- it is, and could not be deleted
  pub not_deleted : {a b c : S} {f g h : Frames} {cleared : Bool} {e : Fault} (r : Result Bool Fault)
      → IsErrAnd r (λ y. y ≡ e) → cleared ≡ true
      → DoesOutside facts a b f g (is_same_object w 0) (Ok cleared)
      → DoesOutside facts b c g h (delete_reference Weak w) (Err e)
      → DoesOutside facts a c f h (deleting_if_cleared w) r
  not_deleted {e = e} r h is first second =
      does_next (λ p m q x y. inl (true, m, x, inr (e, refused_is r h, y))) (told_so is first) second

  -- it is, and was deleted
  pub was_deleted : {a b c : S} {f g h : Frames} {cleared : Bool} → cleared ≡ true
      → DoesOutside facts a b f g (is_same_object w 0) (Ok cleared)
      → DoesOutside facts b c g h (delete_reference Weak w) (Ok tt)
      → DoesOutside facts a c f h (deleting_if_cleared w) (Ok true)
  was_deleted is first second =
      does_next (λ p m q x y. inl (true, m, x, inl (tt, q, y, (refl, refl)))) (told_so is first) second
