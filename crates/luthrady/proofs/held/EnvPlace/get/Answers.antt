use Rattle.luthrady.proofs.KeepingRegions.{done_in_its_region}
use Rattle.luthrady.proofs.held.EnvPlace.get.Goals as goal

-- src/presence.rt
pub returns-in-Critical-clause-call : goal.returns-in-Critical-clause-call
returns-in-Critical-clause-call g c = done_in_its_region _ _ _ _ _ c.in-Critical.is c.get.ensures
