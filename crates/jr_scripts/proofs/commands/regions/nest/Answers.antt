use Rattle.std.proofs.Common.{Ok, subst, sym, ◌∙◌}
use Rattle.jr_model.specs.declared.event.Role.TheVariants.{Within}
use Rattle.jr_critical.specs.Levels.{KnowsLevels, objects_of}
use Rattle.jr_env.specs.Deeds.{CarriedOut, done, ◌>>=◌}
use Rattle.jr_scripts.specs.declared.reply.Reply.TheVariants as replies
use Rattle.jr_scripts.specs.Places.{nth_object}
use Rattle.jr_scripts.specs.RegionCommands.{nesting}
use Rattle.jr_scripts.proofs.NewestLevels.{object_of_level}
use Rattle.jr_env.proofs.Carrying.{did_decided, did_refused, did_reply, did_residual}
use Rattle.jr_scripts.proofs.commands.regions.nest.Goals as goal

pub returns-in_err-number-clause-does : goal.returns-in_err-number-clause-does
returns-in_err-number-clause-does g c =
    did_residual c.in_err-number.field-0.0 c.from_residual-in_err-number.result c.from_residual-in_err-number.ensures.1
    (did_decided (λ w. nesting c.args.verb (objects_of c.args.region.now.levels) w.0
    >>= (λ level. done (replies.Level (nth_object level.1 level.0)))) (sym c.in_ok-handle.ensures)
    (did_refused (λ level. done (replies.Level (nth_object level.1 level.0))) c.in_err-number.field-0.0
    c.in_err-number.ensures.does))

pub returns-clause-does : goal.returns-clause-does
returns-clause-does g c =
    did_decided (λ w. nesting c.args.verb (objects_of c.args.region.now.levels) w.0
    >>= (λ level. done (replies.Level (nth_object level.1 level.0)))) (sym c.in_ok-handle.ensures)
    (subst (λ o. CarriedOut g.S.Steps.facts c.args.env.now.held.steps c.add.new.env.held.steps
    c.args.env.now.held.frames.frames c.add.new.env.held.frames.frames Within (KnowsLevels c.args.region.now.levels
    c.args.env.now.held.frames.frames) (KnowsLevels c.add.new.levels c.add.new.env.held.frames.frames)
    (nesting c.args.verb (objects_of c.args.region.now.levels) c.in_ok-handle.handle.0
    >>= (λ level. done (replies.Level (nth_object level.1 level.0)))) (Ok (replies.Level o)))
    (object_of_level c.add.new.levels c.in_ok-number.number ∙ sym c.object.ensures)
    (did_reply (λ level. replies.Level (nth_object level.1 level.0))
    (c.in_ok-number.number, objects_of c.add.new.levels) c.in_ok-number.ensures.does))
