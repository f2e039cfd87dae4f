use Rattle.std.proofs.Common.{subst, sym}
use Rattle.jr_steps.specs.declared.known.Known.{Known}
use Rattle.jr_steps.specs.Knowing.{view}
use Rattle.jr_rule.specs.Rule.{stepping_pass}
use Rattle.jr_threads.specs.Closing.{HasSweptAll}
use Rattle.jr_threads.proofs.Swept.{knows_own, swept_made}
use Rattle.jr_owned.proofs.collecting.collect_with.Goals as goal

pub returns-in-Ok-clause-ok : goal.returns-in-Ok-clause-ok
returns-in-Ok-clause-ok c =
    let steps = c.new-steps.result in
    let first = c.new-steps.ensures.seen in
    let last = c.into_pass.ensures.seen in
    subst (λ (z : Known × Known). HasSweptAll (view z.0) (view z.1)) (λ i. (first i, sym last i))
    (swept_made _ (λ s. stepping_pass s.cells.seat.me) steps c.collect_fitting.new.steps
    (λ k n. n.0) (knows_own steps.cells.seat.table_id steps.cells.seat.me steps.stands) c.in-Ok.ensures.ok)
