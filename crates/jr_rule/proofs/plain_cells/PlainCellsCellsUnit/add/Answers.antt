use Rattle.std.proofs.Common.{◌+◌, ◌%◌, ◌^◌, ap, slice_set}
use Rattle.jr_rule.proofs.PlainWords.{stepped}
use Rattle.jr_rule.proofs.plain_cells.PlainCellsCellsUnit.add.Goals as goal

pub returns-clause-step : goal.returns-clause-step
returns-clause-step g c =
    let s = c.args.self.now in
    stepped (λ m. m) (record { limits = s.limits; limited = s.limited; serials = s.few }) c.requires.owed
    (ap (λ m. slice_set s.words.items c.args.at ((m + c.args.more) % 2 ^ 64)) c.word-found.ensures) c.word-found.ensures
