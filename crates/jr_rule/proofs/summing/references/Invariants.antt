use Rattle.jr_rule.proofs.Summaries.{IsCounted, references_below}
use Rattle.jr_rule.proofs.summing.references.Given as goal

abbrev pub invariant-loop-index : goal.invariant-loop-index
invariant-loop-index g l = IsCounted l.config (g.W.RowWords.words l.row)
    (references_below l.kind l.index) l.count l.index
