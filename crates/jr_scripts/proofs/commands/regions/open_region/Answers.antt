use Rattle.std.proofs.Common.{None, ap, length, sym, subst, ◌∙◌}
use Rattle.jr_critical.specs.Levels.{StandOver, objects_of}
use Rattle.jr_scripts.specs.declared.reply.Reply.TheVariants as replies
use Rattle.jr_syntax.specs.declared.command.Command.TheVariants.{OpenLevel}
use Rattle.jr_env.specs.Deeds.{done}
use Rattle.jr_env.proofs.Carrying.{did_refused}
use Rattle.jr_scripts.specs.Advancing.{DidWith, StandsIn, StandsWith}
use Rattle.jr_scripts.specs.Commands.{deed}
use Rattle.jr_scripts.proofs.commands.regions.open_region.Goals as goal

pub returns-in-Ok-clause-stand : goal.returns-in-Ok-clause-stand
returns-in-Ok-clause-stand g c =
    let stand : StandsIn c.first.result c.open_levels.new.env = record {
      stand = subst (λ v. StandOver v c.open_levels.new.env.held) (sym c.first.ensures.levels) c.in-Ok.ensures.stand;
      named = ap length c.first.ensures.names
          ∙ sym (ap (λ v. length (objects_of v)) c.first.ensures.levels ∙ c.in-Ok.ensures.one);
    } in
    subst (λ r. StandsWith r c.open_levels.new.env) (sym c.still.ensures.region) stand

pub returns-in-Err-clause-does : goal.returns-in-Err-clause-does
returns-in-Err-clause-does g c =
    let does = deed c.args.turns c.args.names.now (OpenLevel c.args.verb c.args.name.now c.args.target.now) in
    subst (λ r. DidWith c.args.env.now c.open_levels.new.env None r does c.in_none.result.answer)
    (sym c.in_none.ensures.region)
    (subst (λ a. DidWith c.args.env.now c.open_levels.new.env None None does a) (sym c.in_none.ensures.answer)
    (did_refused (λ o. done (replies.Level o)) c.in-Err.fault c.in-Err.ensures.does))
