use Rattle.jr_model.proofs.WorkedExamples.{thrice_is_legal, fourth_is_illegal}
use Rattle.jr_model.proofs.worked_examples.a_slot_gives_each_serial_once.Goals as goal

pub returns-clause-legal : goal.returns-clause-legal
returns-clause-legal c = thrice_is_legal

pub returns-clause-fourth : goal.returns-clause-fourth
returns-clause-fourth c = fourth_is_illegal
