use Rattle.jr_model.proofs.Grounded.{calls_are_their_stays}
use Rattle.jr_model.proofs.laws.calls_are_their_stays.Goals as goal

pub returns : goal.returns
returns c = calls_are_their_stays
