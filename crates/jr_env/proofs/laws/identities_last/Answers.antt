use Rattle.jr_env.proofs.IdentityLaws.{identity_lasts}
use Rattle.jr_env.proofs.laws.identities_last.Goals as goal

pub returns : goal.returns
returns c = identity_lasts
