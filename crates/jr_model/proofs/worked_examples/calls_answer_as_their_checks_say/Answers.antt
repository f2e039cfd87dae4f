use Rattle.jr_model.proofs.AnswerExamples.{length_of_nothing, type_of_nothing, calls_on_cleared}
use Rattle.jr_model.proofs.AnswerExamples.{calls_on_null, second_level, copied_elements, array_lacks_space}
use Rattle.jr_model.proofs.worked_examples.calls_answer_as_their_checks_say.Goals as goal

pub returns-clause-length : goal.returns-clause-length
returns-clause-length c = length_of_nothing

pub returns-clause-types : goal.returns-clause-types
returns-clause-types c = type_of_nothing

pub returns-clause-cleared : goal.returns-clause-cleared
returns-clause-cleared c = calls_on_cleared

pub returns-clause-null : goal.returns-clause-null
returns-clause-null c = calls_on_null

pub returns-clause-level : goal.returns-clause-level
returns-clause-level c = second_level

pub returns-clause-copied : goal.returns-clause-copied
returns-clause-copied c = copied_elements

pub returns-clause-space : goal.returns-clause-space
returns-clause-space c = array_lacks_space
