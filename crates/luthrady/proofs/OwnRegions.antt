-- A critical region that is opened for one thing alone.
use Rattle.std.proofs.Common.{◌≡◌, ◌∙◌, ℕ, Result, Err, ap, inl, inr}
use Rattle.std.specs.Result.{IsErrAnd}
use Rattle.std.proofs.lemmas.Result.{err_from_is_err_and}
use Rattle.jr_word.specs.declared.config.Config.{Config}
use Rattle.jr_word.specs.declared.fault.Fault.{Fault}
use Rattle.jr_model.specs.State.{State}
use Rattle.jr_model.specs.Calls.{Call}
use Rattle.jr_model.specs.Checks.{Word}
use Rattle.jr_steps.specs.declared.steps.Steps.{Ghosts}
use Rattle.jr_frames.specs.declared.held.Held.{Held}
use Rattle.jr_critical.specs.declared.levels.Levels.{Levels}
use Rattle.jr_critical.specs.Levels.{GivesUpAllOver}
use Rattle.jr_env.specs.declared.env.Env.{Env}
use Rattle.jr_env.specs.Envs.{IsOutside}
use Rattle.jr_env.specs.Criticals.{HasEntered, WasRefused}
use Rattle.jr_env.specs.StandingRegions.{EndsUndisturbed, StandsOn, StandsSince}
use Rattle.luthrady.specs.InRegions.{DoneInRegion}

-- a refusal that `?` hands on
pub handed : {A : Type 0} (r : Result A Fault) (e : Fault) → IsErrAnd r (λ y. y ≡ e) → r ≡ Err e
handed r e given = let why = err_from_is_err_and r given in why.1 ∙ ap (λ (v : Fault). Err v) why.2

module _ {S : Type 0} {G : Ghosts S} where
  -- the region was entered, this was done in it, and it was ended
  pub done_in_region : {A : Type 0} (done : Held S G → Held S G → Levels → Result A Fault → Type 0)
      (old first last new : Env S G) (v : Levels) (w : ℕ) (call : Config → ℕ → ℕ → State → Word → Call ℕ)
      (answer : Result A Fault) → HasEntered old first v w call
      → (IsOutside old → StandsSince old.held first.held v) → done first.held last.held v answer
      → StandsOn first.held last.held v v → last.held.frames ≡ first.held.frames
      → GivesUpAllOver last.held new.held v → EndsUndisturbed last.held new.held v
      → new.held.frames ≡ last.held.frames → IsOutside new → DoneInRegion old new w call done answer
  done_in_region done old first last new v w call answer entered since did on kept given ends left out =
      inr (
        v,
        first,
        last,
        entered,
        did,
        given,
        (λ o. ends old.held (on old.held (since o))),
        left ∙ kept ∙ entered.frames,
        out,
      )

  -- it was not opened
  pub not_opened : {A : Type 0} (done : Held S G → Held S G → Levels → Result A Fault → Type 0) (old new : Env S G)
      (w : ℕ) (call : Config → ℕ → ℕ → State → Word → Call ℕ) (answer : Result A Fault) (e : Fault)
      → answer ≡ Err e → WasRefused old new w call e → DoneInRegion old new w call done answer
  not_opened done old new w call answer e is refused = inl (e, is, refused)
