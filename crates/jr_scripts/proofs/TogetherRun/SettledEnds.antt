-- AT THE END OF A RUN no collection is under way, where no thread still collects behind its acts.
use Rattle.std.proofs.Common.{◌≡◌, ℕ, sym, ap, ◌∙◌}
use Rattle.jr_word.specs.declared.config.Config.{Config}
use Rattle.jr_model.specs.declared.event.Role.TheVariants.{Outside}
use Rattle.jr_model.specs.History.{History, IsLegal, mine}
use Rattle.jr_model.proofs.Stays.{role_of_state}
use Rattle.jr_world.specs.Plays.{open_or, open_part}
use Rattle.jr_world.proofs.OpenParts.{none_collects}
use Rattle.jr_scripts.proofs.TogetherRun.Moments.{Settles}

-- all of the history is shown then
pub settled_end : (c : Config) (last : ℕ) (whole : History) → IsLegal c last whole
    → ((u : ℕ) → Settles (mine whole u)) → open_part whole ≡ whole
settled_end c last whole legal settled = ap (open_or whole) (none_collects c last whole legal (λ u e.
    settled u Outside (λ e. cc) (sym (role_of_state whole u) ∙ e)))
