use Rattle.std.proofs.Common.{None, Ok, Some, ap, length, rules, ◌∙◌}
use Rattle.jr_frames.specs.Table.{Table}
use Rattle.jr_critical.specs.Levels.{objects_of}
use Rattle.jr_scripts.specs.Advancing.{DidWith}
use Rattle.jr_scripts.specs.RegionCommands.{giving_up}
use Rattle.jr_scripts.proofs.GivenUpLevels.{did_end_last, did_give_back}
use Rattle.jr_scripts.proofs.NewestLevels.{but_last_taken, objects_before}
use Rattle.jr_scripts.proofs.commands.regions.close.Goals as goal

pub returns-in_err-levels-clause-does : goal.returns-in_err-levels-clause-does
returns-in_err-levels-clause-does g c =
    let d : DidWith c.args.env.now c.close.new.env (Some c.args.region) None
    (giving_up (length (objects_of c.args.region.levels))) (Ok tt) =
    did_end_last g.S.Steps.facts _ _ _ _ c.args.region.levels (ap (λ (t : Table). t.frames) c.close.ensures.frames)
    c.in_err-levels.ensures.call in
    search rules

pub returns-clause-does : goal.returns-clause-does
returns-clause-does g c =
    did_give_back g.S.Steps.facts _ _ _ _ c.args.region.levels (ap (λ (t : Table). t.frames) c.close.ensures.frames)
    c.in_ok-levels.levels c.in_ok-levels.ensures.levels c.in_ok-levels.ensures.stand.some c.in_ok-levels.ensures.call

pub returns-clause-names : goal.returns-clause-names
returns-clause-names g c = c.pop.ensures.rest ∙ but_last_taken c.args.region.names.items

pub returns-clause-objects : goal.returns-clause-objects
returns-clause-objects g c = objects_before c.args.region.levels c.in_ok-levels.levels c.in_ok-levels.ensures.levels.0
    c.in_ok-levels.ensures.levels.1
