use Rattle.luthrady.proofs.KeepingRegions.{told_in_its_region}
use Rattle.luthrady.proofs.held.EnvPlace.length.Goals as goal

-- src/presence.rt
pub returns-in-Critical : goal.returns-in-Critical
returns-in-Critical c = told_in_its_region _ _ _ _ c.in-Critical.is c.length.ensures
