-- A refusal that is handed on.
use Rattle.std.proofs.Common.{◌≡◌, ℕ, Result, Err, IfErr, sym, subst, ◌∙◌, ap}
use Rattle.std.specs.Result.{IsErrAnd}
use Rattle.std.proofs.lemmas.Result.{err_from_is_err_and}
use Rattle.jr_word.specs.declared.fault.Fault.{Fault}
use Rattle.jr_model.specs.State.{State}
use Rattle.jr_model.specs.Frames.{Frames}
use Rattle.jr_model.specs.Calls.{Call}
use Rattle.jr_steps.specs.declared.known.Known.{Known}
use Rattle.jr_steps.specs.Knowing.{Facts}
use Rattle.jr_gate.specs.Performing.{Performed}

module _ {S : Type 0} {facts : S → Facts} where
  pub handed_on : {A : Type 0} {a b : S} {f g : Frames} {silent : ℕ} {met : Known → Type 0}
      {shows : Known → Known → Type 0} {call : State → Call A} {e : Fault} (r : Result A Fault)
      → IsErrAnd r (λ y. y ≡ e)
      → Performed facts a b f g silent met call (Err e) shows → Performed facts a b f g silent met call r shows
  handed_on {a} {b} {f} {g} {silent} {met} {shows} {call} r h p =
      let x = err_from_is_err_and r h in
      subst (λ z. Performed facts a b f g silent met call z shows) (sym (x.1 ∙ ap (λ (y : Fault). Err y) x.2)) p

-- what a refusal that is handed on meets
pub handed_err : {A E : Type 0} {P Q : E → Type 0} (r : Result A E) → IsErrAnd r P → ((e : E) → P e → Q e) → IfErr r Q
handed_err {Q = Q} r h then' = let x = err_from_is_err_and r h in subst (λ z. IfErr z Q) (sym x.1) (then' x.0 x.2)
