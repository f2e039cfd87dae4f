use Rattle.std.proofs.Common.{vec_len}
use Rattle.jr_threads.proofs.closing.+learn_all.Given as goal

abbrev pub decreases-learn_all : goal.decreases-learn_all
decreases-learn_all l = vec_len l.others
