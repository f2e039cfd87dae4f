use Rattle.std.proofs.Common.{refl, subst}
use Rattle.jr_env.specs.Retried.{TriesAgainToOpen}
use Rattle.jr_env.proofs.env_interface.open_beneath.Goals as goal

pub returns-clause-tried : goal.returns-clause-tried
returns-clause-tried g c = (
  c.approach.new.self,
  c.retry_open.new.env,
  c.approach.ensures,
  subst (λ e. TriesAgainToOpen c.args.patience c.args.first e c.retry_open.result c.retry_open.new.env)
      c.env.ensures.value c.retry_open.ensures.tried,
  refl,
)
