use Rattle.std.proofs.Common.{rules, ap}
use Rattle.linked_lists.specs.Lists.{Lists}
use Rattle.linked_lists.proofs.Shown.{shown_as, seen_as, are_lists}
use Rattle.linked_lists.proofs.TakingOut.{low, low_both, taken_out}
use Rattle.linked_lists.proofs.linked_lists.LinkedLists.take_out.Goals as goal

pub previous_of-previous-requires : goal.previous_of-previous-requires
previous_of-previous-requires g c =
    let small = c.self.invariant.small in
    let low = low (shown_as c.self.inside c.self.invariant c.self.view_is) c.args.number c.requires in
    search rules

pub next_of-next-requires : goal.next_of-next-requires
next_of-next-requires g c =
    let small = c.self.invariant.small in
    let low = low (shown_as c.self.inside c.self.invariant c.self.view_is) c.args.number c.requires in
    search rules

pub join-requires : goal.join-requires
join-requires g c =
    let small = c.self.invariant.small in
    let low = low_both (shown_as c.self.inside c.self.invariant c.self.view_is) c.args.number c.requires
    c.previous_of-previous.ensures c.next_of-next.ensures in
    search rules

pub invariant_of-self : goal.invariant_of-self
invariant_of-self g c = are_lists _ (taken_out (shown_as c.self.inside c.self.invariant c.self.view_is) c.args.number
    c.requires c.previous_of-previous.ensures c.next_of-next.ensures c.join.ensures)
    (ap (λ (l : Lists). l.numbers) c.self.view_is)

pub returns : goal.returns
returns g c = seen_as _ (taken_out (shown_as c.self.inside c.self.invariant c.self.view_is) c.args.number c.requires
    c.previous_of-previous.ensures c.next_of-next.ensures c.join.ensures) (ap (λ (l : Lists). l.numbers) c.self.view_is)
