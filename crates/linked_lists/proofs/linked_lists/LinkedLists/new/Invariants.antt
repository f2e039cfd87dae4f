use Rattle.linked_lists.proofs.Fresh.{AreFirst}
use Rattle.linked_lists.proofs.linked_lists.LinkedLists.new.Given as goal

abbrev pub invariant-loop-number : goal.invariant-loop-number
invariant-loop-number g l = AreFirst l.numbers l.number l.links.items
