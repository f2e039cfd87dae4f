use Rattle.std.proofs.Common.{ap}
use Rattle.linked_lists.specs.Lists.{Lists}
use Rattle.linked_lists.proofs.Shown.{shown_as, seen_as, are_lists}
use Rattle.linked_lists.proofs.Stacking.{push_shown}
use Rattle.linked_lists.proofs.linked_lists.LinkedLists.push.Goals as goal

pub invariant_of-self : goal.invariant_of-self
invariant_of-self g c =
    are_lists _ (push_shown
    (shown_as c.self.inside c.self.invariant c.self.view_is) c.len-end.result c.len-end.ensures.value
    c.push.ensures.items c.requires) (ap (λ (l : Lists). l.numbers) c.self.view_is)

pub returns : goal.returns
returns g c =
    seen_as _ (push_shown
    (shown_as c.self.inside c.self.invariant c.self.view_is) c.len-end.result c.len-end.ensures.value
    c.push.ensures.items c.requires) (ap (λ (l : Lists). l.numbers) c.self.view_is)
