use Rattle.jr_model.proofs.Gone.{gone_stays_gone, emptied_stays_gone, taken_is_gone}
use Rattle.jr_model.proofs.laws.no_dropped_local_handle_returns.Goals as goal

pub returns-clause-gone : goal.returns-clause-gone
returns-clause-gone c = gone_stays_gone

pub returns-clause-taken : goal.returns-clause-taken
returns-clause-taken c = taken_is_gone

pub returns-clause-ever : goal.returns-clause-ever
returns-clause-ever c = emptied_stays_gone
