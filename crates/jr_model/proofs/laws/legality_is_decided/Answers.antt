use Rattle.jr_model.proofs.Deciding.{legal_is, event_is}
use Rattle.jr_model.proofs.laws.legality_is_decided.Goals as goal

pub returns-clause-legal : goal.returns-clause-legal
returns-clause-legal g = legal_is

pub returns-clause-event : goal.returns-clause-event
returns-clause-event g = event_is
