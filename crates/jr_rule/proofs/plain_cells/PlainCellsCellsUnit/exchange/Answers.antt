use Rattle.std.proofs.Common.{get_or, slice_set, sym, ap, ◌∙◌}
use lib.Seq.{set-get_or}
use Rattle.jr_rule.proofs.LegalSteps.{won, lost}
use Rattle.jr_rule.proofs.PlainWords.{stepped}
use Rattle.jr_rule.proofs.plain_cells.PlainCellsCellsUnit.exchange.Goals as goal

pub returns-then-found-old-clause-step : goal.returns-then-found-old-clause-step
returns-then-found-old-clause-step g c =
    let s = c.args.self.now in
    stepped (λ m. m) (record { limits = s.limits; limited = s.limited; serials = s.few }) c.requires.owed
    (ap (slice_set s.words.items c.args.at)
    (sym (won c.args.old c.args.new _ (sym c.word-found.ensures ∙ c.if-found-old.true)))) c.word-found.ensures

pub returns-else-found-old-clause-step : goal.returns-else-found-old-clause-step
returns-else-found-old-clause-step g c =
    let s = c.args.self.now in
    stepped (λ m. m) (record { limits = s.limits; limited = s.limited; serials = s.few }) c.requires.owed
    (sym (ap (slice_set s.words.items c.args.at) (lost c.args.old c.args.new (get_or s.words.items c.args.at 0) (λ e.
    c.if-found-old.false (c.word-found.ensures ∙ e))) ∙ set-get_or s.words.items c.args.at 0)) c.word-found.ensures
