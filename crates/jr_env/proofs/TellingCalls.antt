-- What was told of a call, and what was done by it, with its words and names as its contract has them.
use Rattle.std.proofs.Common.{◌≡◌, ℕ, List, Option, Result, Ok, Err, IfOk, refl, subst, sym}
use Rattle.jr_word.specs.declared.fault.Fault.{Fault}
use Rattle.jr_env.specs.declared.span.Span.{Span}
use Rattle.jr_env.specs.TellingCalls.{DidBeneath, LeavesEnv, RefusalTold}

module _ {N : Type 0} (told : N → N → List ℕ → List ℕ → Option Span → Fault → Type 0) where
  -- what was told, by another name for the call and for its words
  pub told_as : {A : Type 0} (left new : N) (answer : Result A Fault) {name name' words words' : List ℕ}
      (span : Option Span) → name ≡ name' → words ≡ words' → RefusalTold told left new name words span answer
      → RefusalTold told left new name' words' span answer
  told_as left new answer {name} {name'} {words} {words'} span n w told' =
      subst (λ x. RefusalTold told left new x words' span answer) n
      (subst (λ x. RefusalTold told left new name x span answer) w told')

  -- what holds of an answer where it is left holds of it behind what was told
  pub told_ok : {A : Type 0} (P : A → N → Type 0) (left new : N) (answer : Result A Fault) (name words : List ℕ)
      (span : Option Span) → IfOk answer (λ x. P x left) → RefusalTold told left new name words span answer
      → IfOk answer (λ x. P x new)
  told_ok P left new (Ok x) name words span holds is = subst (P x) (sym is) holds
  told_ok P left new (Err e) name words span holds told' = tt

  module _ {E A : Type 0} (env_in : N → E) (with_env : N → E → N) (deed : E → E → Type 0) (old new : N)
      (name words : List ℕ) {span : Option Span} (answer : Result A Fault) where
    -- a call of what was lent of the env beneath, and what was told of it
    pub did_beneath : (lent : E) → lent ≡ env_in old → (left : E) → deed lent left
        → RefusalTold told (with_env old left) new name words span answer
        → DidBeneath told env_in with_env deed old new name words span answer
    did_beneath lent is left did told' = record { left = left; did = subst (λ e. deed e left) is did; tells = told' }

-- an env that was lent was left so
pub leaves_env : {N E : Type 0} (env_in : N → E) (with_env : N → E → N) (deed : E → E → Type 0) (old : N) (lent : E)
    → lent ≡ env_in old → (left : E) → deed lent left → LeavesEnv env_in with_env deed old (with_env old left)
leaves_env env_in with_env deed old lent is left did =
    record { left = left; did = subst (λ e. deed e left) is did; leaves = refl }
