use Rattle.jr_model.proofs.WorkedExamples.{drop_is_legal, finding_dropped_is_illegal, creating_beside_is_illegal}
use Rattle.jr_model.proofs.worked_examples.a_dropped_reference_is_stale.Goals as goal

pub returns-clause-legal : goal.returns-clause-legal
returns-clause-legal c = drop_is_legal

pub returns-clause-found : goal.returns-clause-found
returns-clause-found c = finding_dropped_is_illegal

pub returns-clause-beside : goal.returns-clause-beside
returns-clause-beside c = creating_beside_is_illegal
