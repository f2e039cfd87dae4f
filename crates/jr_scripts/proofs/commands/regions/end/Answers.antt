use Rattle.std.proofs.Common.{None, Ok, Some, ap, rules, subst, sym}
use Rattle.jr_frames.specs.Table.{Table}
use Rattle.jr_critical.specs.Levels.{objects_of}
use Rattle.jr_scripts.specs.Advancing.{DidWith, objects_in}
use Rattle.jr_scripts.specs.RegionCommands.{giving_up_all}
use Rattle.jr_scripts.proofs.GivenUpLevels.{did_end_all}
use Rattle.jr_scripts.proofs.commands.regions.end.Goals as goal

pub returns-in-Some-clause-does : goal.returns-in-Some-clause-does
returns-in-Some-clause-does g c =
    let d : DidWith c.args.env.now c.close_all.new.env (Some c.in-Some.field-0) None
    (giving_up_all (objects_of c.in-Some.field-0.levels)) (Ok tt) =
    did_end_all g.S.Steps.facts _ _ _ _ c.in-Some.field-0.levels
    (ap (λ (t : Table). t.frames) c.close_all.ensures.frames) (search rules) (search rules) in
    subst (λ z. DidWith c.args.env.now c.close_all.new.env z None (giving_up_all (objects_in z)) (Ok tt))
    (sym c.in-Some.is) d
