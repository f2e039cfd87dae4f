use Rattle.std.proofs.Common.{sym}
use Rattle.jr_env.specs.Deeds.{get_object_array_element}
use Rattle.jr_scripts.specs.Commands.{makes_reference}
use Rattle.jr_env.proofs.Carrying.{did_decided}
use Rattle.jr_scripts.proofs.perform.get_at.Goals as goal

pub returns : goal.returns
returns g c = did_decided (λ w. makes_reference c.args.turns (get_object_array_element w.0 c.args.index))
    (sym c.in_ok-array.ensures) c.ask.ensures
