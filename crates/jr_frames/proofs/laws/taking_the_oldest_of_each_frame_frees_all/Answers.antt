use Rattle.jr_frames.proofs.Freeing.{free_begins, free_goes_on, free_turns, free_empties, empty_is_popped, free_ends}
use Rattle.jr_frames.proofs.laws.taking_the_oldest_of_each_frame_frees_all.Goals as goal

pub returns-clause-begins : goal.returns-clause-begins
returns-clause-begins c = free_begins

pub returns-clause-goes_on : goal.returns-clause-goes_on
returns-clause-goes_on c = free_goes_on

pub returns-clause-turns : goal.returns-clause-turns
returns-clause-turns c = free_turns

pub returns-clause-empties : goal.returns-clause-empties
returns-clause-empties c = free_empties

pub returns-clause-popped : goal.returns-clause-popped
returns-clause-popped c = empty_is_popped

pub returns-clause-ends : goal.returns-clause-ends
returns-clause-ends c = free_ends
