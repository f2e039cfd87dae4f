-- The text of a lone thread's run is what its script means.
use Rattle.std.proofs.Common.{◌≡◌, ℕ, true, List, [], ◌∷◌}
use Rattle.jr_word.specs.declared.config.Config.{Config}
use Rattle.jr_word.specs.Config.{in_limits}
use Rattle.jr_syntax.specs.declared.thread.ThreadPart.{ThreadPart}
use Rattle.jr_syntax.specs.Script.{all_apart, posts_of}
use Rattle.jr_scripts.specs.Meaning.{MeansText}
use Rattle.jr_scripts.specs.Runs.{IsRun}
use Rattle.jr_scripts.proofs.AloneCase.AsOneOfAll.{run_means}
use Rattle.jr_scripts.proofs.AloneCase.OneCase.{alone_is_a_case}

pub lone_means : (turns last : ℕ) (c : Config) (part : ThreadPart) (text : List ℕ) → c.threads ≡ 1
    → in_limits c ≡ true → all_apart (posts_of (part ∷ [])) ≡ true → IsRun turns last c part text
    → MeansText turns last c part text
lone_means turns last c part text one limits once run few serials =
    alone_is_a_case turns c part text one (run_means turns last c part text one limits once run few serials)
