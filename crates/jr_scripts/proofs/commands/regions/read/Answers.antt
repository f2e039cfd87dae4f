use Rattle.jr_env.specs.Deeds.{CarriedOut}
use Rattle.std.proofs.Common.{sym, subst}
use Rattle.jr_model.specs.declared.event.Role.TheVariants.{Within}
use Rattle.jr_critical.specs.Levels.{KnowsLevels, objects_of}
use Rattle.jr_scripts.specs.Places.{nth_object}
use Rattle.jr_scripts.specs.RegionCommands.{level_reading}
use Rattle.jr_scripts.proofs.NewestLevels.{level_fits, object_of_level}
use Rattle.jr_env.proofs.Carrying.{did_decided}
use Rattle.jr_scripts.proofs.commands.regions.read.Goals as goal

pub read_at-requires-clause-level : goal.read_at-requires-clause-level
read_at-requires-clause-level g c = level_fits c.args.region.now.names.items c.args.name.now c.in_ok-level.level _
    c.requires.named (sym c.in_ok-level.ensures)

pub returns-clause-does : goal.returns-clause-does
returns-clause-does g c =
    did_decided (λ l. level_reading (nth_object (objects_of c.args.region.now.levels) l) c.args.index)
    (sym c.in_ok-level.ensures)
    (subst (λ o.
    CarriedOut g.S.Steps.facts c.args.env.now.held.steps c.read_at.new.env.held.steps c.args.env.now.held.frames.frames
    c.read_at.new.env.held.frames.frames Within (KnowsLevels c.args.region.now.levels c.args.env.now.held.frames.frames)
    (KnowsLevels c.args.region.now.levels c.read_at.new.env.held.frames.frames) (level_reading o c.args.index)
    c.read_at.result) (sym (object_of_level c.args.region.now.levels c.in_ok-level.level)) c.read_at.ensures.does)
