use Rattle.std.proofs.Common.{rules, ap}
use Rattle.linked_lists.specs.Lists.{Lists}
use Rattle.linked_lists.proofs.Shown.{shown_as, seen_as, are_lists}
use Rattle.linked_lists.proofs.PuttingIn.{number_fits, free_fits, put_free_shown}
use Rattle.linked_lists.proofs.linked_lists.LinkedLists.put_free.Goals as goal

pub join-requires-2 : goal.join-requires-2
join-requires-2 g c =
    let small = c.self.invariant.small in
    let shown = shown_as c.self.inside c.self.invariant c.self.view_is in
    let low = number_fits shown c.args.number c.requires.number c.requires.none in
    let next = free_fits shown c.args.number c.requires.number c.requires.none c.self.inside.numbers
    c.next_of-next.result (ap (λ (l : Lists). l.numbers) c.self.view_is) c.next_of-next.ensures in
    let size = c.join.ensures.size in
    search rules

pub invariant_of-self : goal.invariant_of-self
invariant_of-self g c =
    let numbers = ap (λ (l : Lists). l.numbers) c.self.view_is in
    are_lists _ (put_free_shown (shown_as c.self.inside c.self.invariant c.self.view_is) c.args.number
    c.requires.number c.requires.none c.self.inside.numbers c.next_of-next.result numbers c.next_of-next.ensures
    c.join.ensures c.join-2.ensures) numbers

pub returns : goal.returns
returns g c =
    let numbers = ap (λ (l : Lists). l.numbers) c.self.view_is in
    seen_as _ (put_free_shown (shown_as c.self.inside c.self.invariant c.self.view_is) c.args.number
    c.requires.number c.requires.none c.self.inside.numbers c.next_of-next.result numbers c.next_of-next.ensures
    c.join.ensures c.join-2.ensures) numbers
