use Rattle.std.proofs.Common.{rules, subst, ap, sym}
use Rattle.linked_lists.specs.Lists.{Lists, IsAfter}
use Rattle.linked_lists.proofs.Shown.{shown_as}
use Rattle.linked_lists.proofs.TakingOut.{low}
use Rattle.linked_lists.proofs.Reading.{after_shown}
use Rattle.linked_lists.proofs.linked_lists.LinkedLists.after.Goals as goal

pub number_after-requires : goal.number_after-requires
number_after-requires g c =
    let small = c.self.invariant.small in
    let low = low (shown_as c.self.inside c.self.invariant c.self.view_is) c.args.number c.requires in
    search rules

pub returns : goal.returns
returns g c =
    subst (IsAfter c.args.self.now c.args.number) (sym c.number_after.ensures)
    (after_shown (shown_as c.self.inside c.self.invariant c.self.view_is) c.self.inside.numbers c.args.number
    (ap (λ (l : Lists). l.numbers) c.self.view_is))
