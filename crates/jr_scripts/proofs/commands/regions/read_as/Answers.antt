use Rattle.std.proofs.Common.{Ok, ap, rules}
use Rattle.jr_frames.specs.Table.{Table}
use Rattle.jr_critical.specs.Levels.{level_object}
use Rattle.jr_scripts.specs.declared.reply.Reply.TheVariants as replies
use Rattle.jr_scripts.specs.Advancing.{DidWithin}
use Rattle.jr_scripts.specs.RegionCommands.{reading_as}
use Rattle.jr_env.proofs.Carrying.{did_residual}
use Rattle.jr_scripts.proofs.GivenUpLevels.{did_load, did_load_not}
use Rattle.jr_scripts.proofs.commands.regions.read_as.Goals as goal

pub returns-in_err-element-clause-does : goal.returns-in_err-element-clause-does
returns-in_err-element-clause-does g c =
    did_residual c.in_err-element.field-0.0 c.from_residual.result c.from_residual.ensures.1
    (did_load_not g.S.Steps.facts _ _ _ _ c.args.levels.now (ap (λ (t : Table). t.frames) c.get.ensures.frames)
    g.met.S.Steps.fits _ c.requires.stand g.E.Elem.KIND (level_object c.args.levels.now c.args.level) c.args.index
    c.in_err-element.field-0.0 c.in_err-element.ensures.call)

pub returns-clause-does : goal.returns-clause-does
returns-clause-does g c =
    let d : DidWithin c.args.env.now c.get.new.env c.args.levels.now c.args.levels.now (reading_as
    (level_object c.args.levels.now c.args.level) c.args.index g.E.Elem.KIND) (Ok (replies.Value c.to_number.result)) =
    did_load g.S.Steps.facts _ _ _ _ c.args.levels.now (ap (λ (t : Table). t.frames) c.get.ensures.frames)
    g.met.S.Steps.fits _ c.requires.stand g.E.Elem.KIND (level_object c.args.levels.now c.args.level) c.args.index
    (g.E.Elem.word_of c.in_ok-element.element) _ c.to_number.ensures c.in_ok-element.ensures.call in
    search rules
