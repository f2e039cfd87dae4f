use Rattle.jr_frames.proofs.Popping.{pop_begins, pop_goes_on, pop_ends}
use Rattle.jr_frames.proofs.laws.taking_the_oldest_is_a_pop.Goals as goal

pub returns-clause-begins : goal.returns-clause-begins
returns-clause-begins c = pop_begins

pub returns-clause-goes_on : goal.returns-clause-goes_on
returns-clause-goes_on c = pop_goes_on

pub returns-clause-ends : goal.returns-clause-ends
returns-clause-ends c = pop_ends
