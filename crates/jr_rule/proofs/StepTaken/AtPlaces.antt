-- What a step owes at the word of a header and of an element.
use Rattle.std.proofs.Common.{◌≡◌, ◌<◌, ◌≤◌, ℕ, List, sym, ap, subst, ◌∙◌}
use Rattle.jr_word.specs.declared.config.Config.{Config}
use Rattle.jr_model.specs.declared.event.Act.{Act}
use Rattle.jr_model.specs.declared.event.Role.{Role}
use Rattle.jr_model.specs.History.{role_of}
use Rattle.jr_steps.specs.declared.known.Known.{Known}
use Rattle.jr_steps.specs.Knowing.{view}
use Rattle.jr_rule.specs.Cells.{Sight, InRole, IsOwed, May}
use Rattle.jr_rule.specs.Image.{header_at, element_at}
use Rattle.jr_rule.specs.Rule.{Owes}
use Rattle.jr_rule.proofs.StepTaken.{element_in, header_in, owed}

module _ {z : Sight} {r : Role} {met : Known → Type 0} {f : ℕ → ℕ}
    {told : Known → ℕ → List Act → Known → Type 0} {at : ℕ} where
  -- where it is owed at the header of an object of the room
  pub header_owed : (o : ℕ) → at ≡ header_at z.first.config o → (1 ≤ o) × (o ≤ z.first.config.objects)
      → May z (InRole r met)
      → ((k : Known) → role_of (view k) ≡ r → o ≤ k.config.objects → ∥ met k ∥₁
      → Owes k (header_at k.config o) f (told k))
      → IsOwed z (InRole r met) at f told
  header_owed o here number may owes = owed (header_in z.first.config o here number.0 number.1) may (λ k among role m.
      subst (λ i. Owes k i f (told k)) (ap (λ c. header_at c o) among.config ∙ sym here)
      (owes k role (subst (λ (c : Config). o ≤ c.objects) (sym among.config) number.1) m))

  -- where it is owed at a word of the room's space
  pub element_owed : (x : ℕ) → at ≡ element_at z.first.config x → x < z.first.config.words → May z (InRole r met)
      → ((k : Known) → role_of (view k) ≡ r → ∥ met k ∥₁ → Owes k (element_at k.config x) f (told k))
      → IsOwed z (InRole r met) at f told
  element_owed x here few may owes = owed (element_in z.first.config x here few) may (λ k among role m.
      subst (λ i. Owes k i f (told k)) (ap (λ c. element_at c x) among.config ∙ sym here) (owes k role m))
