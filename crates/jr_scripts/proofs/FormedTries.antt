-- Calls that are made again, and whose answers have another form.
use Rattle.std.proofs.Common.{◌≡◌, ◌∙◌, ℕ, false, Result, Ok, Err, refl, subst, sym, ap, inl, inr}
use Rattle.jr_word.specs.declared.fault.Fault.{Fault}
use Rattle.jr_word.specs.declared.fault.Fault.TheVariants as fault
use Rattle.jr_gate.specs.Performing.{ThreadState}
use Rattle.jr_env.specs.Deeds.{Deed, answered_by}
use Rattle.jr_elements.specs.Copies.{answer_in}
use Rattle.jr_env.specs.Tries.{is_tried_again}
use Rattle.jr_env.proofs.MadeAgain.{worth_formed}
use Rattle.jr_scripts.specs.Tries.{Tried, answered, again, gave_up}

module _ {A B : Type 0} (form : A → B) (one : Deed A) where
  -- what answered in the one form answered in the other
  once_formed : (p q : ThreadState) (r : Result B Fault) → answered_by form one p r q
      → (r' : Result A Fault) × (r ≡ answer_in form r') × one p r' q
  once_formed p q r (inl x) = (Ok x.0, x.3.0, subst (λ m. one p (Ok x.0) m) (sym x.3.1) x.2)
  once_formed p q r (inr y) = (Err y.0, y.1, y.2)

  pub tried_formed : (n : ℕ) (p q : ThreadState) (r : Result B Fault) → Tried (answered_by form one) n p r q
      → (r' : Result A Fault) × (r ≡ answer_in form r') × Tried one n p r' q
  tried_formed n p q r (answered o settled) =
      let x = once_formed p q r o in
      (x.0, x.1, answered x.2 (sym (worth_formed false form x.0) ∙ (ap is_tried_again (sym x.1) ∙ settled)))
  tried_formed n p q r (again {n = m} {mid = mid} {once = once} o unsettled more) =
      let x = once_formed p mid once o in
      let y = tried_formed m mid q r more in
      (y.0, y.1, again x.2 (sym (worth_formed false form x.0) ∙ (ap is_tried_again (sym x.1) ∙ unsettled)) y.2)
  tried_formed n p q r gave_up = (Err fault.Turns, refl, gave_up)

-- the answer of calls that were made again, in the other form
pub tried_answered : {A B : Type 0} (form : A → B) (one : Deed A) (n : ℕ) (p q : ThreadState) (r : Result A Fault)
    → Tried one n p r q → answered_by form (Tried one n) p (answer_in form r) q
tried_answered form one n p q (Ok x) t = inl (x, q, t, (refl, refl))
tried_answered form one n p q (Err e) t = inr (e, refl, t)

-- what answered in a form of the code's own
pub tried_told : {A B : Type 0} (form : A → B) (one : Deed B) {n : ℕ} {p q : ThreadState} {r : Result A Fault}
    → Tried (λ old answer new. one old (answer_in form answer) new) n p r q → Tried one n p (answer_in form r) q
tried_told form one (answered o is) = answered o (worth_formed false form _ ∙ is)
tried_told form one (again o is t) = again o (worth_formed false form _ ∙ is) (tried_told form one t)
tried_told form one gave_up = gave_up
