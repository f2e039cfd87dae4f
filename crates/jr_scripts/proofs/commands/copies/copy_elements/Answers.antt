use Rattle.std.proofs.Common.{map, sym}
use Rattle.jr_env.specs.Requests.{for_get_array_elements}
use Rattle.jr_env.specs.Deeds.{whole}
use Rattle.jr_env.proofs.Carrying.{did_more}
use Rattle.jr_scripts.proofs.FormedTries.{tried_told}
use Rattle.jr_scripts.proofs.commands.copies.copy_elements.Goals as goal

pub returns : goal.returns
returns g c = rw (sym c.of.ensures) (did_more (λ p q t. tried_told (map g.E.Elem.word_of)
    (whole (for_get_array_elements g.E.Elem.KIND c.of.result.array.0)) t) c.retry.ensures)
