use Rattle.jr_heap.proofs.Lists.{reads_element, writes_element}
use Rattle.jr_heap.proofs.laws.objects_are_lists.Goals as goal

pub returns-clause-read : goal.returns-clause-read
returns-clause-read c = reads_element

pub returns-clause-write : goal.returns-clause-write
returns-clause-write c = writes_element
