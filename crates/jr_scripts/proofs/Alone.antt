-- One thread alone is never barred, and nobody is in its way.
use Rattle.std.proofs.Common.{◌≡◌, ◌≢◌, ℕ, ◌<◌, ◌==◌, Bool, true, false, cond}
use Rattle.std.proofs.Common.{[], ◌∷◌, refl, sym, ap, subst, ◌∙◌, arith}
use Rattle.std.specs.List.{AllByRecursion}
use mathlib.Core.Logic.{dite}
use native.Mathlib.Decide.{ℕ_discrete}
use Rattle.jr_word.specs.declared.config.Config.{Config}
use Rattle.jr_model.specs.declared.event.Role.TheVariants.{Outside}
use Rattle.jr_model.specs.declared.event.Event.{Event}
use Rattle.jr_model.specs.declared.event.Act.TheVariants.{Gate, ShutBusy}
use Rattle.jr_model.specs.declared.event.GateAct.TheVariants.{Knock}
use Rattle.jr_model.specs.State.{State, opening}
use Rattle.jr_model.specs.Steps.{ActNeeds, after}
use Rattle.jr_model.specs.History.{History, IsLegalFrom, IsLegal, role_after}
use Rattle.jr_model.proofs.Counts.{nobody_knocks, nobody_is_busy}
use Rattle.jr_model.proofs.Stays.{role_step}

-- thread 0 did it, and nobody was in its way at the gate
pub record IsUndisturbed (e : Event) : Type 0 where
  pub own : e.thread ≡ 0
  pub enters : e.act ≢ Gate Knock
  pub shuts : (n : ℕ) → e.act ≢ ShutBusy n

-- all threads but 0 are outside
abbrev OthersOutside : State → Type 0
OthersOutside s = (t : ℕ) → t ≢ 0 → s.role t ≡ Outside

-- so all are where it is outside too
all_outside : (s : State) (t : ℕ) → OthersOutside s → t ≡ 0 → s.role t ≡ Outside → (u : ℕ) → s.role u ≡ Outside
all_outside s t o zero_th out u = dite (ℕ_discrete u 0) (λ first. ap s.role (first ∙ sym zero_th) ∙ out) (o u)

module _ (c : Config) (last : ℕ) (one : c.threads ≡ 1) where
  never_knocks : (s : State) (e : Event) → OthersOutside s → ActNeeds c last s e.thread e.act → e.thread ≡ 0
      → e.act ≢ Gate Knock
  never_knocks s e o needs zero_th is =
      let n = subst (λ a. ActNeeds c last s e.thread a) is needs in
      nobody_knocks c last s e.thread (all_outside s e.thread o zero_th n.0) n

  never_busy : (s : State) (e : Event) → OthersOutside s → ActNeeds c last s e.thread e.act → e.thread ≡ 0 → (n : ℕ)
      → e.act ≢ ShutBusy n
  never_busy s e o needs zero_th n is =
      let m = subst (λ a. ActNeeds c last s e.thread a) is needs in
      nobody_is_busy c last n s e.thread (omega arith) (λ u ne. o u (λ z. ne (z ∙ sym zero_th))) m

  others_stay : (s : State) (e : Event) → OthersOutside s → e.thread ≡ 0 → OthersOutside (after s e)
  others_stay s e o zero_th t other = role_step s e.thread e.act t ∙ go (e.thread == t) refl
    where
      go : (b : Bool) → (e.thread == t) ≡ b → cond b (role_after (s.role t) e.act) (s.role t) ≡ Outside
      go true is = absurd (other (sym (Rattle.jr_model.proofs.Updates.eq_true e.thread t is) ∙ zero_th))
      go false is = o t other

  undisturbed_from : (s : State) (es : History) → OthersOutside s → IsLegalFrom c last s es
      → AllByRecursion IsUndisturbed es
  undisturbed_from s [] o l = tt
  undisturbed_from s (e ∷ es) o l =
      let below : e.thread < c.threads = l.0.0 in
      let zero_th : e.thread ≡ 0 = omega arith in (
        record { own = zero_th; enters = never_knocks s e o l.0.1 zero_th; shuts = never_busy s e o l.0.1 zero_th },
        undisturbed_from (after s e) es (others_stay s e o zero_th) l.1,
      )

  -- each event of a legal history in a room of one thread is that thread's, no knock, and no shut that was refused
  pub undisturbed : (es : History) → IsLegal c last es → AllByRecursion IsUndisturbed es
  undisturbed es l = undisturbed_from opening es (λ t other. refl) l
