use Rattle.jr_weak.proofs.AnnouncedCollects.{collects_act_by_act, makes_announced}
use Rattle.jr_weak.proofs.collecting.collect_announced_listing.Goals as goal

pub returns-clause-ok : goal.returns-clause-ok
returns-clause-ok g c =
    makes_announced g.S.Steps.facts c.requires.outside c.in_ok-shut.ensures.ok c.finish.ensures.all

pub returns-clause-counted : goal.returns-clause-counted
returns-clause-counted g c =
    collects_act_by_act g.S.Steps.facts c.in_ok-shut.ensures.ok c.finish.ensures.all
