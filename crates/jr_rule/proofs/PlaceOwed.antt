-- What a store to a local word owes, wherever it finds the row.
use Rattle.std.proofs.Common.{◌≡◌, ◌<◌, ◌≤◌, ◌^◌, ℕ, Option, Some, None, [], ◌∷◌, slice_set, refl, subst, ◌∙◌, arith}
use Rattle.std.proofs.Math.Logic.{∥∥₁_elim}
use Rattle.std.proofs.Props.{props}
use Rattle.jr_word.specs.declared.config.TheConstants.Config.{MOST_OBJECTS}
use Rattle.jr_word.specs.Local.{local_word}
use Rattle.jr_model.specs.declared.event.Role.TheVariants.{Within}
use Rattle.jr_model.specs.History.{IsLegal, role_of}
use Rattle.jr_model.proofs.InRoom.{in_room}
use Rattle.jr_steps.specs.declared.known.Known.{Known}
use Rattle.jr_steps.specs.Acts.{act_of_put}
use Rattle.jr_steps.specs.Says.{local_parts}
use Rattle.jr_rule.specs.Image.{local_at}
use Rattle.jr_steps.specs.Knowing.{view, HasOptional}
use Rattle.jr_rule.specs.Rule.{Owes}
use Rattle.jr_rule.proofs.StillSo.{role_at, present_now}
use Rattle.jr_rule.proofs.LegalSteps.{quiet}
use Rattle.jr_rule.proofs.LocalSteps.{puts}
use Rattle.jr_rule.proofs.Told.{Put}

-- an object, if one is given, without a choice
pub optional_is : (o : Option ℕ) (k : Known) → ∥ HasOptional o k ∥₁ → HasOptional o k
optional_is None k may = tt
optional_is (Some o) k may = ∥∥₁_elim may (hlevel props) (λ h. h)

-- and its number is one of the room
pub optional_fits : (o : Option ℕ) (k : Known) → IsLegal k.config k.last k.seen → k.config.objects ≤ MOST_OBJECTS
    → HasOptional o k → (x : ℕ) → o ≡ Some x → (0 < x) × (x < 2 ^ 16)
optional_fits o k legal few has x e =
    let room = (in_room k.config k.last k.seen legal).objects x (subst (λ z. HasOptional z k) e has) in
    let low = room.0 in
    let high = room.1 in (omega arith, omega arith)

module _ (k : Known) (within : role_of (view k) ≡ Within) where
  pub puts_local : (p : ℕ) (o : Option ℕ) → p < k.config.locals → HasOptional o k
      → Owes k (local_at k.config k.thread p) (λ n. local_word (local_parts o)) (λ n.
      Put p o k (local_word (local_parts o)))
  puts_local p o l has log words held f =
      let at : ℕ = local_at k.config k.thread p in
      let t =
      puts k.config k.last log k.thread words f.legal held f.image f.fits.row (role_at k log words held f ∙ within) p o
      l (λ x e. present_now k log words held f x within (subst (λ z. HasOptional z k) e has)) in
      quiet k log words held f (slice_set words at (local_word (local_parts o)))
      (Put p o k (local_word (local_parts o))) (act_of_put p o ∷ []) t (refl, refl)
