use Rattle.std.proofs.Common.{sym}
use Rattle.jr_env.specs.Deeds.{new_object_array}
use Rattle.jr_scripts.specs.Commands.{makes_new}
use Rattle.jr_env.proofs.Carrying.{did_decided}
use Rattle.jr_scripts.proofs.perform.fill.Goals as goal

pub returns : goal.returns
returns g c = did_decided (λ w. makes_new c.args.turns (new_object_array c.args.length w.0))
    (sym c.in_ok-initial.ensures) c.ask.ensures
