use Rattle.jr_scripts.proofs.AloneCase.OneCase.{alone_is_a_case}
use Rattle.jr_scripts.proofs.laws.one_thread_is_a_case.Goals as goal

pub returns : goal.returns
returns c = alone_is_a_case
