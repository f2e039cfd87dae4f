-- COLLECTIONS of a thread alone: luck counts for nothing, since there are no others.
use Rattle.std.proofs.Common.{◌≡◌, ℕ, zero, suc, not, nat_lt, Result, List, [], ◌∷◌, length, slice_set, refl}
use Rattle.std.proofs.Common.{sym, ap, subst, ◌∙◌, arith}
use Rattle.jr_word.specs.declared.fault.Fault.{Fault}
use Rattle.jr_model.specs.declared.event.Role.{Role}
use Rattle.jr_model.specs.declared.event.Role.TheVariants.{Outside}
use Rattle.jr_model.specs.State.{is_outside}
use Rattle.jr_world.specs.World.{how_many}
use Rattle.jr_world.specs.Doing.{Shared}
use Rattle.jr_weak.specs.declared.collecting.Collected.{Collected}
use Rattle.jr_scripts.specs.Together.{announced_in_steps, collected_in_steps, others_in, tried_in_steps}
use Rattle.jr_scripts.proofs.OneRow.Alike.{Tidy}
use Rattle.jr_scripts.proofs.OneRow.Collections.{Exactly, IsExact, IsOutBeside, collected_exact, ran_once, run_once}
use Rattle.jr_scripts.proofs.OneRow.Collections.{told_exact, told_of_it, tried_leads}
use Rattle.jr_scripts.proofs.OneRow.Follows.{LeadsTo, nobody}

none_other : (z : Shared) → length z.roles ≡ 1 → others_in 0 z ≡ 0
none_other z one = go z.roles one
  where
    go : (roles : List Role) → length roles ≡ 1
        → how_many (λ r. not (is_outside r)) (slice_set roles 0 Outside) ≡ 0
    go [] one = absurd (omega arith)
    go (r ∷ []) one = refl
    go (r ∷ q ∷ roles) one = absurd (omega arith)

tried_exact : (z : Shared) → Tidy z → length z.roles ≡ 1 → (n : ℕ)
    → IsExact 0 (tried_in_steps n announced_in_steps) z
tried_exact z tidy one zero = (refl, refl)
tried_exact z tidy one (suc n) = subst (λ (x : Result Collected Fault × Shared). LeadsTo nobody 0 (Exactly x.0 x.1)
    (tried_in_steps (suc n) announced_in_steps) z) (sym (ran_once 0 z n))
    (tried_leads 0 (Exactly (run_once 0 z).0 (run_once 0 z).1) z tidy beside (refl, refl) n
    (λ more. let bad = sym (ap (nat_lt 1) one) ∙ more in absurd cc))
  where
    beside : IsOutBeside 0 z
    beside some = let bad = sym (ap (nat_lt 0) (none_other z one)) ∙ some in absurd cc

module _ (z : Shared) (tidy : Tidy z) (one : length z.roles ≡ 1) where
  pub gc_exact : IsExact 0 (told_of_it 0 collected_in_steps) z
  gc_exact = told_exact 0 collected_in_steps z (collected_exact 0 z tidy)

  pub gcann_exact : (turns : ℕ) → IsExact 0 (told_of_it 0 (tried_in_steps turns announced_in_steps)) z
  gcann_exact turns =
      told_exact 0 (tried_in_steps turns announced_in_steps) z (tried_exact z tidy one turns)
