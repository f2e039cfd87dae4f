use Rattle.luthrady.proofs.KeepingRegions.{entered_by, refused_by_env}
use Rattle.luthrady.proofs.in_region.entered.Goals as goal

-- src/in_region.rt
pub returns-in-Ok : goal.returns-in-Ok
returns-in-Ok c = entered_by _ _ _ _ c.deref_mut.ensures.value c.in-Ok.ensures.tried c.open_by.ensures.marker

pub returns-in-Err : goal.returns-in-Err
returns-in-Err c = refused_by_env _ _ _ _ _ c.deref_mut.ensures.value c.in-Err.ensures.tried c.open_by.ensures.marker
