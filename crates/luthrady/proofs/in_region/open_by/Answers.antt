use Rattle.std.proofs.Common.{subst, sym}
use Rattle.jr_env.specs.declared.levels_beside.First.{First}
use Rattle.jr_env.specs.declared.levels_beside.First.TheVariants.{Array, Text}
use Rattle.jr_env.specs.Retried.{TriesToOpen}
use Rattle.luthrady.proofs.KeepingRegions.{tried_to_open}
use Rattle.luthrady.proofs.in_region.open_by.Goals as goal

-- src/in_region.rt
pub returns-in-Array-clause-tried : goal.returns-in-Array-clause-tried
returns-in-Array-clause-tried c =
    subst (λ (first : First). TriesToOpen first c.args.native.now.env c.open_array.result c.open_array.new.env)
    (sym c.in-Array.is)
    (tried_to_open (Array c.in-Array.array) _ _ _ c.open_array.ensures.entered c.open_array.ensures.region
    c.open_array.ensures.refused)

pub returns-in-Text-clause-tried : goal.returns-in-Text-clause-tried
returns-in-Text-clause-tried c =
    subst (λ (first : First). TriesToOpen first c.args.native.now.env c.open_string.result c.open_string.new.env)
    (sym c.in-Text.is)
    (tried_to_open (Text c.in-Text.string) _ _ _ c.open_string.ensures.entered c.open_string.ensures.region
    c.open_string.ensures.refused)
