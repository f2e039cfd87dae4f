use Rattle.jr_model.proofs.Stays.{sees_its_own_acts}
use Rattle.jr_model.proofs.laws.lone_threads_see_their_own_acts.Goals as goal

pub returns : goal.returns
returns c = sees_its_own_acts
