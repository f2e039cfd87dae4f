use Rattle.std.proofs.Common.{rules, ap, ◌≡◌, ◌+◌, ◌-◌, ℕ, suc, arith}
use Rattle.linked_lists.specs.Lists.{Lists}
use Rattle.linked_lists.proofs.Shown.{shown_as, seen_as, are_lists}
use Rattle.linked_lists.proofs.PuttingIn.{number_fits, last_fits, put_last_shown}
use Rattle.linked_lists.proofs.linked_lists.LinkedLists.put_last.Goals as goal

end_is : (len links numbers lists : ℕ) → len ≡ links → links ≡ numbers + 1 + lists → suc (len - 1) ≡ links
end_is len links numbers lists e f = omega arith

pub join-requires : goal.join-requires
join-requires g c =
    let small = c.self.invariant.small in
    let shown = shown_as c.self.inside c.self.invariant c.self.view_is in
    let low = number_fits shown c.args.number c.requires.number c.requires.none in
    let last = last_fits shown c.args.number c.requires.number c.requires.none (c.len.result - 1)
    c.previous_of-previous.result (end_is c.len.result _ _ _ c.len.ensures.value shown.size)
    c.previous_of-previous.ensures c.requires.some in
    search rules

pub invariant_of-self : goal.invariant_of-self
invariant_of-self g c =
    let shown = shown_as c.self.inside c.self.invariant c.self.view_is in
    are_lists _ (put_last_shown shown c.args.number c.requires.number c.requires.none (c.len.result - 1)
    c.previous_of-previous.result (end_is c.len.result _ _ _ c.len.ensures.value shown.size)
    c.previous_of-previous.ensures c.requires.some c.join.ensures c.join-2.ensures)
    (ap (λ (l : Lists). l.numbers) c.self.view_is)

pub returns : goal.returns
returns g c =
    let shown = shown_as c.self.inside c.self.invariant c.self.view_is in
    seen_as _ (put_last_shown shown c.args.number c.requires.number c.requires.none (c.len.result - 1)
    c.previous_of-previous.result (end_is c.len.result _ _ _ c.len.ensures.value shown.size)
    c.previous_of-previous.ensures c.requires.some c.join.ensures c.join-2.ensures)
    (ap (λ (l : Lists). l.numbers) c.self.view_is)
