use Rattle.std.proofs.Common.{sym, ◌∙◌}
use Rattle.luthrady.proofs.KeepingRegions.{done_with}
use Rattle.luthrady.proofs.regions.get.Goals as goal

-- src/regions.rt
pub returns : goal.returns
returns g c =
    let is = sym c.is_env.ensures.value ∙ c.if-not-is_env.false in
    done_with _ _ _ _ _ _ is c.is_env.ensures.unchanged c.env_of.ensures.value c.get.ensures.mark
    c.get.ensures.call
