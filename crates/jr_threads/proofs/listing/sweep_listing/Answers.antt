use Rattle.std.proofs.Common.{map, refl, subst, sym}
use Rattle.jr_steps.specs.declared.known.Known.{Known}
use Rattle.jr_rule.specs.Passes.{known_of}
use Rattle.jr_rule.specs.Rule.{stepping_pass}
use Rattle.jr_threads.specs.Listing.{LearnsAndDumps}
use Rattle.jr_threads.proofs.Dumped.{dumped_or}
use Rattle.jr_threads.proofs.Swept.{knows_own}
use Rattle.jr_threads.proofs.listing.sweep_listing.Goals as goal

pub returns-clause-listed : goal.returns-clause-listed
returns-clause-listed c =
    let steps = c.learn_all-others.new.steps in
    let first = c.new-steps.ensures.seen in
    let last = c.into_pass.ensures.seen in
    let all = dumped_or _ (λ s. stepping_pass s.cells.seat.me) (λ s k n. n.0) (λ s. refl) steps
    c.collect_and_dump-listed.new.steps (knows_own steps.cells.seat.table_id steps.cells.seat.me steps.stands)
    c.collect_and_dump-listed.result c.collect_and_dump-listed.ensures.ok c.collect_and_dump-listed.ensures.err in
    subst (λ (z : Known × Known).
    LearnsAndDumps z.0 z.1 (map known_of c.args.others.items) c.collect_and_dump-listed.result)
    (λ i. (first i, sym last i))
    (record {
      learned = stepping_pass steps.cells.seat.me;
      learns = c.learn_all-others.ensures.learned;
      done = all.0;
      kept_out = all.1;
    })
