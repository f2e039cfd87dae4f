use Rattle.std.proofs.Common.{sym}
use lib.Seq.{set-get_or}
use Rattle.jr_rule.proofs.PlainWords.{stepped}
use Rattle.jr_rule.proofs.plain_cells.PlainCellsCellsUnit.load.Goals as goal

pub returns-clause-step : goal.returns-clause-step
returns-clause-step g c =
    let s = c.args.self.now in
    stepped (λ m. m) (record { limits = s.limits; limited = s.limited; serials = s.few }) c.requires.owed
    (sym (set-get_or s.words.items c.args.at 0)) c.word.ensures
