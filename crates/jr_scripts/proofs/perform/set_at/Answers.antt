use Rattle.std.proofs.Common.{sym}
use Rattle.jr_env.specs.Deeds.{set_object_array_element, decided, done, ◌>>=◌, ◌>>◌}
use Rattle.jr_scripts.specs.declared.reply.Reply.TheVariants.{Done}
use Rattle.jr_scripts.specs.Names.{referent, wanted}
use Rattle.jr_scripts.specs.Commands.{tried}
use Rattle.jr_env.proofs.Carrying.{did_decided}
use Rattle.jr_scripts.proofs.perform.set_at.Goals as goal

pub returns : goal.returns
returns g c =
    did_decided (λ a. decided (wanted (referent c.args.names.now c.args.value.now))
    >>= (λ w. tried c.args.turns (set_object_array_element a.0 c.args.index w.0) >> done Done))
    (sym c.in_ok-array.ensures)
    (did_decided (λ w. tried c.args.turns (set_object_array_element c.in_ok-array.array.0 c.args.index w.0)
    >> done Done) (sym c.in_ok-value.ensures) c.ask.ensures)
