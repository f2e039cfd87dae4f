-- A call of a stay, for whatever was known.
use Rattle.std.proofs.Common.{◌≡◌, ◌≢◌, ℕ, List, Some, None, Result, Ok, Err, refl}
use Rattle.std.specs.Result.{IsErrAnd}
use Rattle.jr_word.specs.declared.fault.Fault.{Fault}
use Rattle.jr_word.specs.declared.kind.Kind.{Kind}
use Rattle.jr_model.specs.declared.frames.Mode.{Mode}
use Rattle.jr_model.specs.declared.frames.Mode.TheVariants.{Copy, Commit, Abort}
use Rattle.jr_steps.specs.declared.steps.Steps.{Ghosts}
use Rattle.jr_elements.specs.Copies.{answer_in, kept}
use Rattle.jr_env.specs.declared.env.Env.{Env}
use Rattle.jr_env.specs.Deeds.{Deed, answered_by, done, release_within, in_a_stay}
use Rattle.jr_env.specs.Requests.{for_copy_back}
use Rattle.jr_env.specs.LentStays.{DoesInside}
use Rattle.jr_env.proofs.Carrying.{did_answer, did_refuse, does_nothing}

module _ {S : Type 0} {G : Ghosts S} (old new : Env S G) where
  -- the answer in another form
  pub answers_inside : {A B : Type 0} {deed : Deed A} {x : A} {y : B} (form : A → B) → y ≡ form x
      → DoesInside old new deed (Ok x) → DoesInside old new (answered_by form deed) (Ok y)
  answers_inside form is d = record { did = did_answer form is d.did; on = d.on }

  pub refuses_inside : {A B : Type 0} {deed : Deed A} {e : Fault} (form : A → B) (answer : Result B Fault)
      → IsErrAnd answer (λ y. y ≡ e) → DoesInside old new deed (Err e)
      → DoesInside old new (answered_by form deed) answer
  refuses_inside form answer given d = record { did = did_refuse form answer given d.did; on = d.on }

  -- a release that writes the elements back
  pub gives_back : (kind : Kind) (w : ℕ) (buffer : List ℕ) (mode : Mode) → mode ≢ Abort
      → (answer : Result (Unit {0}) Fault)
      → DoesInside old new (in_a_stay (for_copy_back kind w buffer)) answer
      → DoesInside old new (release_within kind w buffer mode) (answer_in (λ u. kept mode buffer) answer)
  gives_back kind w buffer Copy ne (Ok x) d = answers_inside (λ u. None) refl d
  gives_back kind w buffer Copy ne (Err e) d = refuses_inside (λ u. None) (Err e) refl d
  gives_back kind w buffer Commit ne (Ok x) d = answers_inside (λ u. Some buffer) refl d
  gives_back kind w buffer Commit ne (Err e) d = refuses_inside (λ u. Some buffer) (Err e) refl d
  gives_back kind w buffer Abort ne answer d = absurd (ne refl)

-- what does nothing
pub nothing_inside : {S : Type 0} {G : Ghosts S} (env : Env S G) {A : Type 0} (x : A)
    → DoesInside env env (done x) (Ok x)
nothing_inside env x = record { did = does_nothing (λ p. (refl, refl)); on = λ begun since. since }
