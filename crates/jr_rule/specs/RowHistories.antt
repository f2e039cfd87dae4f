-- For the crate's own functions: the histories that a row of words shows.
use Rattle.std.specs.Prelude.{ℕ, ◌^◌, ◌<◌, List}
use Rattle.jr_word.specs.declared.config.Config.{Config}
use Rattle.jr_model.specs.History.{History, state, IsLegal}
use Rattle.jr_steps.specs.declared.known.Holdings.{Holdings}
use Rattle.jr_rule.specs.Image.{IsImage}

-- the history is legal, with this last serial, and the words are its image
pub record IsHistoryOf (c : Config) (words : List ℕ) (last : ℕ) (log : History) : Type 0 where
  pub few : last < 2 ^ 32
  pub legal : IsLegal c last log
  pub held : ℕ → Holdings
  pub image : IsImage c last words (state log) held

-- the words are the image of some legal history
abbrev pub HasHistory : Config → List ℕ → Type 0
HasHistory c words = ∥ ((last : ℕ) × (log : History) × IsHistoryOf c words last log) ∥₁
