-- Calls that are tried with a collection between, and what else is done over an env by who tells of refusals.
use Rattle.std.proofs.Common.{◌≡◌, ◌∙◌, ℕ, Bool, true, false, Option, Result, Ok, Err, List, inl, inr, subst, sym}
use Rattle.std.specs.Result.{IsErrAnd}
use Rattle.jr_word.specs.declared.fault.Fault.{Fault}
use Rattle.jr_word.specs.declared.handle.RefKind.TheVariants.{Weak}
use Rattle.jr_env.specs.declared.patience.Patience.{Patience}
use Rattle.jr_env.specs.declared.span.Span.{Span}
use Rattle.jr_env.specs.Requests.{Request, for_delete_reference, for_is_same_object}
use Rattle.jr_env.specs.TellingCalls.{TriedAgain}
use Rattle.jr_env.specs.TellingRemedies.{DeletesCleared, TriesCollecting}
use Rattle.jr_env.specs.Tries.{MadeAgain, collected, kept_out, lacks_room, served}
use Rattle.jr_env.proofs.MadeAgain.{lacks_alike}
use Rattle.jr_env.proofs.Served.{refused_is}

-- the tries, from the same caller by another name
from_old : {N A : Type 0} {one : N → Result A Fault → N → Type 0} {start old mid : N} {answer : Result A Fault}
    (p : Patience) → start ≡ old → MadeAgain p.waits_for_room one p.more start answer mid
    → MadeAgain p.waits_for_room one p.more old answer mid
from_old {one = one} {mid = mid} {answer = answer} p same o =
    subst (λ s. MadeAgain p.waits_for_room one p.more s answer mid) same o

module _ {N A C : Type 0} {one : N → Result A Fault → N → Type 0} {collects : N → Result C Fault → N → Type 0}
    {fits : Type 0} (p : Patience) {start old : N} (same : start ≡ old) (known : fits) where
  pub served_over : {new : N} {answer : Result A Fault} → MadeAgain p.waits_for_room one p.more start answer new
      → lacks_room answer ≡ false → TriesCollecting one collects fits p old answer new
  served_over o is = record { tries = λ f. served (from_old p same o) is; size = λ no. absurd (no known) }

  pub refused_over : {new : N} (e : Fault) → MadeAgain p.waits_for_room one p.more start (Err e) new
      → lacks_room {A = Unit {0}} (Err e) ≡ false → TriesCollecting one collects fits p old (Err e) new
  refused_over e o is = served_over o (lacks_alike A (Unit {0}) e ∙ is)

  pub collected_over : {mid next new : N} {answer : Result A Fault} (x : C) (e : Fault)
      → MadeAgain p.waits_for_room one p.more start (Err e) mid → lacks_room {A = Unit {0}} (Err e) ≡ true
      → collects mid (Ok x) next → MadeAgain p.waits_for_room one p.more next answer new
      → TriesCollecting one collects fits p old answer new
  collected_over x e o is between again = record {
    tries = λ f. collected (from_old p same o) (lacks_alike A (Unit {0}) e ∙ is) between again;
    size = λ no. absurd (no known);
  }

  pub kept_out_over : {mid new : N} (e lack : Fault) → MadeAgain p.waits_for_room one p.more start (Err lack) mid
      → lacks_room {A = Unit {0}} (Err lack) ≡ true → collects mid (Err e) new
      → TriesCollecting one collects fits p old (Err e) new
  kept_out_over e lack o is between = record {
    tries = λ f. kept_out (from_old p same o) (lacks_alike A (Unit {0}) lack ∙ is) between;
    size = λ no. absurd (no known);
  }

module _ {N : Type 0} {told : N → N → List ℕ → List ℕ → Option Span → Fault → Type 0}
    {compared : N → N → Request Bool → Result Bool Fault → Type 0} {p : Patience} {w : ℕ} where
  -- what a comparison told
  pub compared_so : {old new : N} {cleared other : Bool} → cleared ≡ other
      → TriedAgain told compared p old new (for_is_same_object w 0) (Ok cleared)
      → TriedAgain told compared p old new (for_is_same_object w 0) (Ok other)
  compared_so {old} {new} is t = subst (λ b. TriedAgain told compared p old new (for_is_same_object w 0) (Ok b)) is t

  -- a weak reference could not be compared
  pub not_compared_told : (deleted : N → N → Request (Unit {0}) → Result (Unit {0}) Fault → Type 0) {old new : N}
      {e : Fault} (r : Result Bool Fault) → IsErrAnd r (λ y. y ≡ e)
      → TriedAgain told compared p old new (for_is_same_object w 0) (Err e)
      → DeletesCleared told compared deleted p w old new r
  not_compared_told deleted {old} {new} r h t =
      subst (λ x. DeletesCleared told compared deleted p w old new x) (sym (refused_is r h)) (inl t)

  module _ {deleted : N → N → Request (Unit {0}) → Result (Unit {0}) Fault → Type 0} where
    -- it is cleared, and could not be deleted
    pub not_deleted_told : {old mid new : N} {cleared : Bool} {e : Fault} (r : Result Bool Fault)
        → IsErrAnd r (λ y. y ≡ e) → cleared ≡ true
        → TriedAgain told compared p old mid (for_is_same_object w 0) (Ok cleared)
        → TriedAgain told deleted p mid new (for_delete_reference Weak w) (Err e)
        → DeletesCleared told compared deleted p w old new r
    not_deleted_told {old} {mid} {new} r h is first second =
        subst (λ x. DeletesCleared told compared deleted p w old new x) (sym (refused_is r h))
        (inr (mid, compared_so is first, second))

    -- it is, and was deleted
    pub was_deleted_told : {old mid new : N} {cleared : Bool} → cleared ≡ true
        → TriedAgain told compared p old mid (for_is_same_object w 0) (Ok cleared)
        → TriedAgain told deleted p mid new (for_delete_reference Weak w) (Ok tt)
        → DeletesCleared told compared deleted p w old new (Ok true)
    was_deleted_told {mid = mid} is first second = (mid, compared_so is first, second)
