use Rattle.std.proofs.Common.{ap, ◌∙◌}
use Rattle.luthrady.specs.Behind.{with_env_of}
use Rattle.luthrady.proofs.behind.is_env.Goals as goal

-- src/behind.rt
pub returns-clause-unchanged : goal.returns-clause-unchanged
returns-clause-unchanged c =
    ap (with_env_of c.is_null_env.new.handle) c.env_of.ensures.value ∙ c.is_null_env.ensures.1
