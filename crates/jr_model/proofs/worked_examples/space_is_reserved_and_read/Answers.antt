use Rattle.jr_model.proofs.WorkedExamples.{space_is_legal, refusing_what_fits_is_illegal}
use Rattle.jr_model.proofs.WorkedExamples.{reading_another_is_illegal, making_beyond_is_illegal}
use Rattle.jr_model.proofs.worked_examples.space_is_reserved_and_read.Goals as goal

pub returns-clause-legal : goal.returns-clause-legal
returns-clause-legal c = space_is_legal

pub returns-clause-another : goal.returns-clause-another
returns-clause-another c = reading_another_is_illegal

pub returns-clause-beyond : goal.returns-clause-beyond
returns-clause-beyond c = making_beyond_is_illegal

pub returns-clause-full : goal.returns-clause-full
returns-clause-full c = refusing_what_fits_is_illegal
