use Rattle.jr_weak.proofs.AnnouncedCollects.{made_announced_plain}
use Rattle.jr_weak.proofs.collecting.collect_announced.Goals as goal

pub returns-clause-ok : goal.returns-clause-ok
returns-clause-ok g c =
    made_announced_plain g.S.Steps.facts _ _ c.args.tries _ _ _ c.collect_announced_listing.ensures.ok
