use Rattle.std.proofs.Common.{refl}
use Rattle.jr_rule.proofs.PlainWords.{stepped}
use Rattle.jr_rule.proofs.plain_cells.PlainCellsCellsUnit.store.Goals as goal

pub returns-clause-step : goal.returns-clause-step
returns-clause-step g c =
    let s = c.args.self.now in
    stepped (λ m. c.args.new) (record { limits = s.limits; limited = s.limited; serials = s.few }) c.requires.owed refl
    refl
