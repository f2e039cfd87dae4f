use Rattle.linked_lists.specs.Lists.{list_at}
use Rattle.jr_frames.proofs.Giving.{IsLeft, left_from}
use Rattle.jr_frames.proofs.frame_walk.any_gives_again.Given as goal

abbrev pub invariant-loop-next : goal.invariant-loop-next
invariant-loop-next l = IsLeft l.places.items l.last (list_at l.order.lists l.frame) l.next

abbrev pub decreases-loop-next : goal.decreases-loop-next
decreases-loop-next l = left_from l.next (list_at l.order.lists l.frame)
