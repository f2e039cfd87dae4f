use Rattle.jr_weak.proofs.Collects.{makes}
use Rattle.jr_weak.proofs.collecting.collect_listing.Goals as goal

pub returns-clause-ok : goal.returns-clause-ok
returns-clause-ok g c = makes g.S.Steps.facts c.requires.outside c.in_ok-shut.ensures.ok.1 c.finish.ensures.all
