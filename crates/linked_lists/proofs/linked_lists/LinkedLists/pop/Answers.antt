use Rattle.std.proofs.Common.{ap}
use Rattle.linked_lists.specs.Lists.{Lists}
use Rattle.linked_lists.proofs.Shown.{shown_as, seen_as, are_lists}
use Rattle.linked_lists.proofs.Stacking.{pop_shown}
use Rattle.linked_lists.proofs.linked_lists.LinkedLists.pop.Goals as goal

pub invariant_of-self : goal.invariant_of-self
invariant_of-self g c =
    are_lists _ (pop_shown (shown_as c.self.inside c.self.invariant c.self.view_is) c.pop.ensures.rest c.requires.some
    c.requires.empty) (ap (λ (l : Lists). l.numbers) c.self.view_is)

pub returns : goal.returns
returns g c =
    seen_as _ (pop_shown (shown_as c.self.inside c.self.invariant c.self.view_is) c.pop.ensures.rest c.requires.some
    c.requires.empty) (ap (λ (l : Lists). l.numbers) c.self.view_is)
