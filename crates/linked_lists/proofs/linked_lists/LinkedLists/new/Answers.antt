use Rattle.std.proofs.Common.{◌≤◌, ℕ, refl, ap, subst, arith, List}
use Rattle.linked_lists.specs.declared.links.Link.{Link}
use Rattle.linked_lists.proofs.Fresh.{AreFirst, fresh_shown, link}
use Rattle.linked_lists.proofs.Shown.{are_lists, seen_as}
use Rattle.linked_lists.proofs.linked_lists.LinkedLists.new.Goals as goal

all_first : (n k : ℕ) (links : List Link) → n ≤ k → k ≤ n → AreFirst n k links → AreFirst n n links
all_first n k links l m first = subst (λ j. AreFirst n j links) (omega arith) first

pub invariant_of-result : goal.invariant_of-result
invariant_of-result g c = are_lists _ (fresh_shown c.args.numbers c.loop-number.links.items _ _
    (all_first _ _ _ c.loop-number-test.false c.loop-number.auto.number-end c.loop-number.invariant)
    c.push-2.ensures.items (ap (λ n. link n 0) c.before-2.ensures) _ c.requires.room c.requires.small) refl

pub returns : goal.returns
returns g c = seen_as _ (fresh_shown c.args.numbers c.loop-number.links.items _ _
    (all_first _ _ _ c.loop-number-test.false c.loop-number.auto.number-end c.loop-number.invariant)
    c.push-2.ensures.items (ap (λ n. link n 0) c.before-2.ensures) _ c.requires.room c.requires.small) refl
