use Rattle.std.proofs.Common.{◌∙◌, ap, sym}
use mathlib.Core.Logic.{∥∥₁_map}
use Rattle.jr_word.specs.declared.config.Config.{Config}
use Rattle.jr_model.specs.State.{summary as summary_of}
use Rattle.jr_steps.specs.Knowing.{state_of}
use Rattle.jr_rule.specs.CellLaws.{among_of}
use Rattle.jr_rule.specs.Sights.{sight_of_words}
use Rattle.jr_rule.proofs.PlainWords.{seen_history, some_history}
use Rattle.jr_rule.proofs.over_plain.StepsOver+PlainCells+LAST+unit.summary.Goals as goal

pub summary-requires-clause-history : goal.summary-requires-clause-history
summary-requires-clause-history g c =
    let s = c.args.self.now in
    let z = sight_of_words s.cells.config g.row.LAST s.cells.words.items in
    some_history s.cells.config g.row.LAST s.cells.words.items s.cells.few
    (∥∥₁_map s.stands.some (λ k. (k.0, among_of z s.role s.fresh k.0 k.1)))

pub returns : goal.returns
returns g c k h =
    let s = c.args.self.now in
    c.summary.ensures k.last k.seen (seen_history s.cells.config g.row.LAST s.cells.words.items s.cells.few k h)
    ∙ ap (λ (x : Config). summary_of x k.last (state_of k)) (sym h.config)
