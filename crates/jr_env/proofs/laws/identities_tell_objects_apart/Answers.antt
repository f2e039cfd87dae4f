use Rattle.jr_env.proofs.IdentityLaws.{one_identity_each}
use Rattle.jr_env.proofs.laws.identities_tell_objects_apart.Goals as goal

pub returns : goal.returns
returns c = one_identity_each
