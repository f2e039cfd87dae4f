use Rattle.std.proofs.Common.{refl}
use Rattle.jr_env.specs.Deeds.{decided, ◌>>◌}
use Rattle.jr_env.proofs.Carrying.{did_decline, did_refused, did_residual, does_then}
use Rattle.jr_scripts.specs.Commands.{copying_as}
use Rattle.jr_scripts.specs.Numbers.{has_numbers, kind_numbered}
use Rattle.jr_scripts.proofs.CommandDeeds.{does_of_kind, numbered_has}
use Rattle.jr_scripts.proofs.commands.copies.copy.Goals as goal

pub returns : goal.returns
returns g c = does_of_kind c.args.turns c.args.array.0 c.in_ok-kind.kind (kind_numbered c.in_ok-numbered.numbered)
    (copying_as c.args.turns c.args.array.0) c.in_ok-numbered.ensures.ok (numbered_has c.in_ok-numbered.numbered)
    c.in_ok-kind.ensures c.copy_as.ensures

pub returns-in_err-kind : goal.returns-in_err-kind
returns-in_err-kind g c = did_residual c.in_err-kind.field-0.0 c.from_residual.result c.from_residual.ensures.1
    (did_refused (λ k. decided (has_numbers k) >> copying_as c.args.turns c.args.array.0 k) c.in_err-kind.field-0.0
    c.in_err-kind.ensures)

pub returns-in_err-numbered : goal.returns-in_err-numbered
returns-in_err-numbered g c = did_residual c.in_err-numbered.field-0.0 c.from_residual-in_err-numbered.result
    c.from_residual-in_err-numbered.ensures.1
    (does_then (λ k. decided (has_numbers k) >> copying_as c.args.turns c.args.array.0 k) c.in_ok-kind.ensures
    (did_decline (λ _. copying_as c.args.turns c.args.array.0 c.in_ok-kind.kind) refl (λ k m. m)
    c.in_err-numbered.ensures.err))
