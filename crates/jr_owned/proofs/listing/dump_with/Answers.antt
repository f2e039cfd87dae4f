use Rattle.std.proofs.Common.{◌∙◌, ap, refl, subst, sym, ℕ}
use Rattle.jr_word.specs.declared.config.Config.{Config}
use Rattle.jr_steps.specs.declared.known.Known.{Known}
use Rattle.jr_rule.specs.Passes.{Holder, facts_of, holder_of}
use Rattle.jr_rule.specs.Rooms.{holder_over}
use Rattle.jr_rule.specs.Rule.{stepping_pass}
use Rattle.jr_threads.proofs.Dumped.{dumped_behind}
use Rattle.jr_threads.proofs.Swept.{knows_own}
use Rattle.jr_weak.specs.Markers.{room_of}
use Rattle.jr_owned.specs.Listing.{HasDumped, IsNotDumped}
use Rattle.jr_owned.proofs.Dumped.{not_dumped}
use Rattle.jr_owned.proofs.listing.dump_with.Goals as goal

pub returns-in-Ok-dump_fitting-clause-ok : goal.returns-in-Ok-dump_fitting-clause-ok
returns-in-Ok-dump_fitting-clause-ok c =
    let steps = c.new-steps.result in
    let first = c.new-steps.ensures.seen in
    let last = c.into_pass-in-Ok-dump_fitting.ensures.seen in
    subst (λ (z : Known × Known). HasDumped z.0 z.1 c.in-Ok-dump_fitting.dump) (λ i. (first i, sym last i))
    (dumped_behind _ (λ s. stepping_pass s.cells.seat.me) (λ s k n. n.0) (λ s. refl) steps c.dump_fitting.new.steps
    c.in-Ok-dump_fitting.dump (knows_own steps.cells.seat.table_id steps.cells.seat.me steps.stands)
    c.in-Ok-dump_fitting.ensures.ok)

pub returns-in-Err-clause-err : goal.returns-in-Err-clause-err
returns-in-Err-clause-err c =
    let steps = c.new-steps.result in
    let first = c.new-steps.ensures.pass in
    let last = c.into_pass-in-Err.ensures.pass in
    let objects = ap (λ (h : Holder). (facts_of h).stands.config.objects) first
    ∙ ap (λ (d : Config). d.objects) c.requires.pass.config in
    subst (λ (n : ℕ). IsNotDumped (room_of c.args.marker.now) n (holder_of c.args.pass)
    (holder_of c.into_pass-in-Err.result) c.in-Err.fault) objects
    (subst (λ (z : Holder × Holder). IsNotDumped (room_of c.args.marker.now)
    (facts_of (holder_over steps)).stands.config.objects z.0 z.1 c.in-Err.fault) (λ i. (first i, sym last i))
    (not_dumped holder_over (room_of c.args.marker.now) (facts_of (holder_over steps)).stands.config.objects steps
    c.dump_fitting.new.steps c.in-Err.fault
    (knows_own steps.cells.seat.table_id steps.cells.seat.me steps.stands) c.in-Err.ensures.err))
