use Rattle.jr_weak.proofs.Collects.{made_plain}
use Rattle.jr_weak.proofs.collecting.collect.Goals as goal

pub returns-clause-ok : goal.returns-clause-ok
returns-clause-ok g c = made_plain g.S.Steps.facts _ _ _ _ _ c.collect_listing.ensures.ok
