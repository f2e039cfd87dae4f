use Rattle.std.proofs.Common.{◌∷◌, IfErr, map, rules, subst, sym}
use Rattle.jr_word.specs.declared.config.Config.{Config}
use Rattle.jr_rule.proofs.Parted.{all_at}
use Rattle.jr_rule.specs.Passes.{ClosesAll, HasEachPass, known_of}
use Rattle.jr_rule.specs.Rooms.{AreLeft}
use Rattle.jr_threads.specs.Listing.{LearnsAndDumps}
use Rattle.jr_threads.proofs.Dumped.{closes_dumped, dumped_thread, not_refused}
use Rattle.jr_threads.proofs.Swept.{same_each, same_known, same_outside}
use Rattle.jr_threads.proofs.listing.close_listing.Goals as goal

pub close_all-requires : goal.close_all-requires
close_all-requires c =
    let others = all_at c.args.room.row c.args.others.items c.sweep_listing-first.result.1.items
    c.sweep_listing-first.ensures.others c.requires.others in search rules

pub unreachable-requires : goal.unreachable-requires
unreachable-requires c =
    let first = c.sweep_listing-first.result.0 in
    let others = c.sweep_listing-first.result.1 in
    let left : AreLeft c.args.room first others.items c.in_default.field-0 =
    subst (λ r. IfErr r (λ l. AreLeft c.args.room first others.items l)) c.in_default.is c.close_all.ensures.err in
    let same = same_known c.args.others.items others.items c.sweep_listing-first.ensures.others in
    let thread = dumped_thread (known_of c.args.first) (known_of first) (map known_of c.args.others.items)
    c.sweep_listing-first.result.2 c.sweep_listing-first.ensures.listed in
    left.somebody (same_each c.args.room.row.config (known_of c.args.first) (known_of first)
    (map known_of c.args.others.items) (map known_of others.items) thread same c.requires.each) (
      c.sweep_listing-first.ensures.outside,
      same_outside c.args.others.items others.items c.sweep_listing-first.ensures.others c.requires.outside.1,
    )

pub unreachable-requires-in_default-listed : goal.unreachable-requires-in_default-listed
unreachable-requires-in_default-listed c =
    let k = known_of c.args.first in
    let first = c.sweep_listing-first.result.0 in
    let others = c.sweep_listing-first.result.1 in
    let same = same_known c.args.others.items others.items c.sweep_listing-first.ensures.others in
    let ks = map known_of c.args.others.items in
    let listed = c.sweep_listing-first.ensures.listed in
    let thread = dumped_thread k (known_of first) ks c.sweep_listing-first.result.2 listed in
    let each = same_each c.args.room.row.config k (known_of first) ks ks thread (λ i. ks) c.requires.each in
    not_refused k (known_of first) ks c.in-Ok.summary
    (subst (λ l. ClosesAll (known_of first) l c.in-Ok.summary) same c.in-Ok.ensures.ok)
    (subst (λ (d : Config). HasEachPass d (known_of first ∷ ks)) (sym c.sweep_listing-first.ensures.first.config) each)
    c.in_default-listed.field-0
    (subst (λ r. LearnsAndDumps k (known_of first) ks r) c.in_default-listed.is listed)

pub returns : goal.returns
returns c =
    let k = known_of c.args.first in
    let first = c.sweep_listing-first.result.0 in
    let others = c.sweep_listing-first.result.1 in
    let same = same_known c.args.others.items others.items c.sweep_listing-first.ensures.others in
    let ks = map known_of c.args.others.items in
    let listed = c.sweep_listing-first.ensures.listed in
    let thread = dumped_thread k (known_of first) ks c.sweep_listing-first.result.2 listed in
    let each = same_each c.args.room.row.config k (known_of first) ks ks thread (λ i. ks) c.requires.each in
    closes_dumped k (known_of first) ks c.in-Ok.summary
    (subst (λ l. ClosesAll (known_of first) l c.in-Ok.summary) same c.in-Ok.ensures.ok)
    (subst (λ (d : Config). HasEachPass d (known_of first ∷ ks)) (sym c.sweep_listing-first.ensures.first.config) each)
    c.in-Ok-listed.dump (subst (λ r. LearnsAndDumps k (known_of first) ks r) c.in-Ok-listed.is listed)
