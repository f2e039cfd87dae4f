use Rattle.jr_model.proofs.Words.{elements_are_words, plain_has_no_elements}
use Rattle.jr_model.proofs.laws.elements_are_words.Goals as goal

pub returns-clause-words : goal.returns-clause-words
returns-clause-words c = elements_are_words

pub returns-clause-plain : goal.returns-clause-plain
returns-clause-plain c = plain_has_no_elements
