use Rattle.std.proofs.Common.{vec_len}
use Rattle.jr_rule.proofs.row.Row.+count_all.Given as goal

abbrev pub decreases-count_all : goal.decreases-count_all
decreases-count_all l = vec_len l.others
