use Rattle.std.proofs.Common.{rules, ap}
use Rattle.linked_lists.specs.Lists.{Lists}
use Rattle.linked_lists.proofs.Shown.{shown_as}
use Rattle.linked_lists.proofs.linked_lists.LinkedLists.len.Goals as goal

pub returns : goal.returns
returns g c =
    let size = (shown_as c.self.inside c.self.invariant c.self.view_is).size in
    let numbers = ap (λ (l : Lists). l.numbers) c.self.view_is in
    let len = c.len.ensures.value in
    search rules
