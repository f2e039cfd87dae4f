use Rattle.std.proofs.Common.{ap, w64}
use Rattle.std.proofs.lemmas.Int.{to_z-of_z}
use Rattle.jr_model.specs.Programs.{at_object}
use Rattle.jr_model.specs.CallPrograms.{region_set}
use Rattle.jr_frames.specs.Table.{Table}
use Rattle.jr_critical.specs.Levels.{level_object}
use Rattle.jr_env.proofs.Carrying.{did_residual}
use Rattle.jr_scripts.proofs.Within.{did_reach, did_store, did_store_not}
use Rattle.jr_scripts.proofs.commands.regions.write_as.Goals as goal

pub returns-in_err-set-clause-does : goal.returns-in_err-set-clause-does
returns-in_err-set-clause-does g c =
    did_residual c.in_err-set.field-0.0 c.from_residual-in_err-set.result c.from_residual-in_err-set.ensures.1
    (did_store_not (level_object c.args.levels.now c.args.level) c.args.index c.args.number _ g.E.Elem.KIND _
    c.in_ok-element.ensures.ok (to_z-of_z w64 c.args.number c.ranges.number) c.in_err-set.field-0.0
    (did_reach g.S.Steps.facts g.met.S.Steps.fits (λ k last t s. at_object k last t s
    (level_object c.args.levels.now c.args.level)
    (region_set g.E.Elem.KIND c.args.index (g.E.Elem.word_of c.in_ok-element.element)))
    c.requires.stand (ap (λ (t : Table). t.frames) c.set.ensures.frames) c.in_err-set.ensures.call))

pub returns-clause-does : goal.returns-clause-does
returns-clause-does g c =
    did_store (level_object c.args.levels.now c.args.level) c.args.index c.args.number _ g.E.Elem.KIND _
    c.in_ok-element.ensures.ok (to_z-of_z w64 c.args.number c.ranges.number)
    (did_reach g.S.Steps.facts g.met.S.Steps.fits (λ k last t s. at_object k last t s
    (level_object c.args.levels.now c.args.level)
    (region_set g.E.Elem.KIND c.args.index (g.E.Elem.word_of c.in_ok-element.element)))
    c.requires.stand (ap (λ (t : Table). t.frames) c.set.ensures.frames) c.in_ok-set.ensures.call)
