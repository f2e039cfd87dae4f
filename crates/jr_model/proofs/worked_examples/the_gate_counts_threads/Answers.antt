use Rattle.jr_model.proofs.WorkedExamples.{gate_is_legal, wrong_count_is_illegal, shutting_over_is_illegal}
use Rattle.jr_model.proofs.WorkedExamples.{entering_beside_is_illegal, knocking_at_open_is_illegal}
use Rattle.jr_model.proofs.worked_examples.the_gate_counts_threads.Goals as goal

pub returns-clause-legal : goal.returns-clause-legal
returns-clause-legal c = gate_is_legal

pub returns-clause-count : goal.returns-clause-count
returns-clause-count c = wrong_count_is_illegal

pub returns-clause-over : goal.returns-clause-over
returns-clause-over c = shutting_over_is_illegal

pub returns-clause-beside : goal.returns-clause-beside
returns-clause-beside c = entering_beside_is_illegal

pub returns-clause-open : goal.returns-clause-open
returns-clause-open c = knocking_at_open_is_illegal
