use Rattle.std.proofs.Common.{◌+◌}
use Rattle.jr_rule.proofs.Summaries.{IsCounted, objects_below}
use Rattle.jr_rule.proofs.summing.objects.Given as goal

abbrev pub invariant-loop-before : goal.invariant-loop-before
invariant-loop-before g l = IsCounted l.config (g.W.RowWords.words l.row)
    (objects_below (l.before + 1)) l.count l.before
