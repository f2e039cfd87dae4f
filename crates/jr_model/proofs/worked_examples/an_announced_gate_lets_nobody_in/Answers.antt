use Rattle.jr_model.proofs.WorkedExamples.{announcing_is_legal, entering_announced_is_illegal}
use Rattle.jr_model.proofs.WorkedExamples.{announcing_beside_is_illegal, counting_the_announcer_is_illegal}
use Rattle.jr_model.proofs.WorkedExamples.{shutting_announced_over_is_illegal}
use Rattle.jr_model.proofs.worked_examples.an_announced_gate_lets_nobody_in.Goals as goal

pub returns-clause-legal : goal.returns-clause-legal
returns-clause-legal c = announcing_is_legal

pub returns-clause-entering : goal.returns-clause-entering
returns-clause-entering c = entering_announced_is_illegal

pub returns-clause-beside : goal.returns-clause-beside
returns-clause-beside c = announcing_beside_is_illegal

pub returns-clause-count : goal.returns-clause-count
returns-clause-count c = counting_the_announcer_is_illegal

pub returns-clause-over : goal.returns-clause-over
returns-clause-over c = shutting_announced_over_is_illegal
