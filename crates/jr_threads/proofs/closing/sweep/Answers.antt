use Rattle.std.proofs.Common.{map, subst, sym}
use Rattle.jr_steps.specs.declared.known.Known.{Known}
use Rattle.jr_rule.specs.Passes.{known_of}
use Rattle.jr_rule.specs.Rule.{stepping_pass}
use Rattle.jr_threads.specs.Closing.{LearnsAndSweeps}
use Rattle.jr_threads.proofs.Swept.{knows_own, swept_or}
use Rattle.jr_threads.proofs.closing.sweep.Goals as goal

pub returns-clause-swept : goal.returns-clause-swept
returns-clause-swept c =
    let steps = c.learn_all-others.new.steps in
    let first = c.new-steps.ensures.seen in
    let last = c.into_pass.ensures.seen in
    let all = swept_or _ (λ s. stepping_pass s.cells.seat.me) steps c.collect.new.steps c.collect.result
    (λ k n. n.0) (knows_own steps.cells.seat.table_id steps.cells.seat.me steps.stands)
    c.collect.ensures.ok c.collect.ensures.err in
    subst (λ (z : Known × Known). LearnsAndSweeps z.0 z.1 (map known_of c.args.others.items))
    (λ i. (first i, sym last i))
    (record { learned = stepping_pass steps.cells.seat.me; learns = c.learn_all-others.ensures.learned; then = all })
