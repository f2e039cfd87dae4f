use Rattle.jr_env.specs.Requests.{for_get_string_chars}
use Rattle.jr_scripts.specs.declared.reply.Reply.TheVariants.{Units}
use Rattle.jr_scripts.proofs.CopyDeeds.{does_told}
use Rattle.jr_scripts.proofs.commands.copies.copy_units.Goals as goal

pub returns : goal.returns
returns g c = does_told c.args.turns (λ units. units.items) (λ units. Units units)
    (for_get_string_chars c.args.string.0) c.ask.ensures
