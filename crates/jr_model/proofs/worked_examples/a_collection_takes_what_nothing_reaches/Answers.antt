use Rattle.jr_model.proofs.WorkedExamples.{collection_is_legal, collecting_reached_is_illegal}
use Rattle.jr_model.proofs.worked_examples.a_collection_takes_what_nothing_reaches.Goals as goal

pub returns-clause-legal : goal.returns-clause-legal
returns-clause-legal c = collection_is_legal

pub returns-clause-reached : goal.returns-clause-reached
returns-clause-reached c = collecting_reached_is_illegal
