-- What a call did that is made over an env by who tells of refusals: the call of the env beneath, made once or again,
-- and of its refusal what was told.
use Rattle.std.specs.Prelude.{◌≡◌, ◌↔◌, ℕ, Option, Result, Ok, Err, List}
use Rattle.jr_word.specs.declared.fault.Fault.{Fault}
use Rattle.jr_word.specs.declared.fault.Fault.TheVariants.{Size}
use Rattle.jr_steps.specs.declared.steps.Steps as steps
use Rattle.jr_weak.specs.declared.marker.Marker.{Marker}
use Rattle.jr_env.specs.declared.env.Env.{Env}
use Rattle.jr_env.specs.Collections.{FitsRoom}
use Rattle.jr_env.specs.Deeds.{Deed}
use Rattle.jr_env.specs.Envs.{Does}
use Rattle.jr_env.specs.declared.patience.Patience.{Patience}
use Rattle.jr_env.specs.declared.span.Span.{Span}
use Rattle.jr_env.specs.Requests.{Request, request_name, request_words}
use Rattle.jr_env.specs.Spans.{Spans}
use Rattle.jr_env.specs.Tries.{MadeAgain}

module _ {N : Type 0} (told : N → N → List ℕ → List ℕ → Option Span → Fault → Type 0) where
  -- what stands behind a call: where it was not refused what it left, and else what was told of it
  abbrev pub RefusalTold : {A : Type 0} → N → N → List ℕ → List ℕ → Option Span → Result A Fault → Type 0
  RefusalTold left new name words span (Ok x) = new ≡ left
  RefusalTold left new name words span (Err e) = told left new name words span e

  -- THE ENV BENEATH DID THIS, and its refusal was told
  pub record DidBeneath {E A : Type 0} (env_in : N → E) (with_env : N → E → N) (deed : E → E → Type 0) (old new : N)
      (name words : List ℕ) (span : Option Span) (answer : Result A Fault) : Type 0 where
    pub left : E
    pub did : deed (env_in old) left
    pub tells : RefusalTold (with_env old left) new name words span answer

  -- A CALL WAS TRIED, AND AGAIN as long as there was patience; the last answer is the answer,
  -- and of it alone was told, with elements that the request asks
  pub record TriedAgain {A : Type 0} (tried : N → N → Request A → Result A Fault → Type 0) (p : Patience)
      (old new : N) (request : Request A) (answer : Result A Fault) : Type 0 where
    pub left : N
    pub tries : MadeAgain p.waits_for_room (λ before once behind. tried before behind request once) p.more old answer
        left
    pub span : Option Span
    pub asks : Spans request span
    pub tells : RefusalTold left new (request_name request) (request_words request) span answer

-- THE ENV BENEATH WAS LEFT SO, and nothing was told
pub record LeavesEnv {N E : Type 0} (env_in : N → E) (with_env : N → E → N) (deed : E → E → Type 0)
    (old new : N) : Type 0 where
  pub left : E
  pub did : deed (env_in old) left
  pub leaves : new ≡ with_env old left

module _ {S : Type 0} {G : steps.Ghosts S} where
  -- AN ENV DID THIS WITH A MARKER, where the marker fits its room;
  -- and where it doesn't, that was refused by E17, and the env is as it was
  pub record DoesIfFits {A : Type 0} (m : Marker) (old new : Env S G) (how : Deed A) (answer : Result A Fault)
      : Type 0 where
    pub fits : FitsRoom m old → Does old new how answer
    pub size : (answer ≡ Err Size) ↔ ¬ (FitsRoom m old)
    pub same : ¬ (FitsRoom m old) → new ≡ old
