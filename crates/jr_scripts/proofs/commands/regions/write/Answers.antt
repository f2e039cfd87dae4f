use Rattle.jr_env.specs.Deeds.{CarriedOut}
use Rattle.std.proofs.Common.{sym, subst, w64}
use Rattle.std.proofs.lemmas.Int.{to_z-of_z}
use Rattle.jr_model.specs.declared.event.Role.TheVariants.{Within}
use Rattle.jr_critical.specs.Levels.{KnowsLevels, level_object, objects_of}
use Rattle.jr_scripts.specs.Places.{nth_object}
use Rattle.jr_scripts.specs.RegionCommands.{level_writing}
use Rattle.jr_scripts.proofs.NewestLevels.{level_fits, object_of_level}
use Rattle.jr_env.proofs.Carrying.{did_decided}
use Rattle.jr_scripts.proofs.commands.regions.write.Goals as goal

pub write_at-requires-clause-level : goal.write_at-requires-clause-level
write_at-requires-clause-level g c = level_fits c.args.region.now.names.items c.args.name.now c.in_ok-level.level _
    c.requires.named (sym c.in_ok-level.ensures)

pub returns-clause-does : goal.returns-clause-does
returns-clause-does g c =
    did_decided (λ l. level_writing (nth_object (objects_of c.args.region.now.levels) l) c.args.index c.args.number)
    (sym c.in_ok-level.ensures)
    (subst (λ o. CarriedOut g.S.Steps.facts c.args.env.now.held.steps c.write_at.new.env.held.steps
    c.args.env.now.held.frames.frames c.write_at.new.env.held.frames.frames Within (KnowsLevels c.args.region.now.levels
    c.args.env.now.held.frames.frames) (KnowsLevels c.args.region.now.levels c.write_at.new.env.held.frames.frames)
    (level_writing o c.args.index c.args.number) c.write_at.result)
    (sym (object_of_level c.args.region.now.levels c.in_ok-level.level))
    (subst (λ z. CarriedOut g.S.Steps.facts c.args.env.now.held.steps c.write_at.new.env.held.steps
    c.args.env.now.held.frames.frames c.write_at.new.env.held.frames.frames Within (KnowsLevels c.args.region.now.levels
    c.args.env.now.held.frames.frames) (KnowsLevels c.args.region.now.levels c.write_at.new.env.held.frames.frames)
    (level_writing (level_object c.args.region.now.levels c.in_ok-level.level) c.args.index z) c.write_at.result)
    (to_z-of_z w64 c.args.number c.ranges.number) c.write_at.ensures.does))
