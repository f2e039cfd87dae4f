use Rattle.jr_owned.proofs.Pools.{idle_over}
use Rattle.jr_owned.proofs.pool.env_of.Goals as goal

pub returns : goal.returns
returns g c = idle_over c.of_site-steps.result c.env_over.result c.env_over.ensures
