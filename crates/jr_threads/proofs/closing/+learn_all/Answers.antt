use Rattle.std.proofs.Common.{◌≡◌, ◌++◌, ◌∷◌, [], rules}
use Rattle.jr_rule.specs.Rule.{stepping_pass}
use Rattle.jr_threads.proofs.Swept.{learns_more}
use Rattle.jr_threads.proofs.closing.+learn_all.Goals as goal

pub returns-clause-learned : goal.returns-clause-learned
returns-clause-learned t c =
    let is : c.args.others.items ≡ c.pop.new.self.items ++ c.in-Some.other ∷ [] = search rules in
    learns_more _ (stepping_pass c.learn_from-other.new.steps.cells.seat.me) _ c.args.others.items
    c.pop.new.self.items c.in-Some.other is c.learn_from-other.ensures.seen c.learn_from-other.ensures.learned
    c.learn_all-others.ensures.learned
