use Rattle.std.proofs.Common.{ap, ◌∙◌, arith}
use Rattle.linked_lists.specs.Lists.{Lists}
use Rattle.linked_lists.proofs.Shown.{shown_as}
use Rattle.linked_lists.proofs.Reading.{first_shown}
use Rattle.linked_lists.proofs.linked_lists.LinkedLists.first_free.Goals as goal

pub returns : goal.returns
returns g c =
    let numbers = ap (λ (l : Lists). l.numbers) c.self.view_is in
    c.number_after.ensures
    ∙ first_shown (shown_as c.self.inside c.self.invariant c.self.view_is) 0 (omega arith) c.self.inside.numbers
    c.self.inside.numbers numbers (omega arith)
