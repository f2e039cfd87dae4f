use Rattle.jr_threads.proofs.GivenBack.{back, closed_behind, ran_listing}
use Rattle.jr_threads.proofs.Passes.{each_has, each_out, first_at, others_at}
use Rattle.jr_threads.proofs.running.run_listing_in.Goals as goal

pub close_listing-dump-requires-clause-first : goal.close_listing-dump-requires-clause-first
close_listing-dump-requires-clause-first g c =
    let r = c.args.opened.0.row in
    let ps = c.args.opened.1.items in
    let x = c.in_ok-answers.field-0 in
    let came = back g.N.NativeCode.tells (g.N.NativeCode.deed c.args.native.now) r ps x c.requires.opened
    c.in_ok-answers.ensures.run in
    first_at r ps x.first x.others.items came

pub close_listing-dump-requires-clause-others : goal.close_listing-dump-requires-clause-others
close_listing-dump-requires-clause-others g c =
    let r = c.args.opened.0.row in
    let ps = c.args.opened.1.items in
    let x = c.in_ok-answers.field-0 in
    let came = back g.N.NativeCode.tells (g.N.NativeCode.deed c.args.native.now) r ps x c.requires.opened
    c.in_ok-answers.ensures.run in
    others_at r ps x.first x.others.items came

pub close_listing-dump-requires-clause-each : goal.close_listing-dump-requires-clause-each
close_listing-dump-requires-clause-each g c =
    let r = c.args.opened.0.row in
    let ps = c.args.opened.1.items in
    let x = c.in_ok-answers.field-0 in
    let came = back g.N.NativeCode.tells (g.N.NativeCode.deed c.args.native.now) r ps x c.requires.opened
    c.in_ok-answers.ensures.run in
    each_has r ps x.first x.others.items c.requires.opened came

pub close_listing-dump-requires-clause-outside : goal.close_listing-dump-requires-clause-outside
close_listing-dump-requires-clause-outside g c =
    let r = c.args.opened.0.row in
    let ps = c.args.opened.1.items in
    let x = c.in_ok-answers.field-0 in
    let came = back g.N.NativeCode.tells (g.N.NativeCode.deed c.args.native.now) r ps x c.requires.opened
    c.in_ok-answers.ensures.run in
    each_out r ps x.first x.others.items came

pub returns-clause-run : goal.returns-clause-run
returns-clause-run g c = ran_listing g.N.NativeCode.tells (g.N.NativeCode.deed c.args.native.now)
    c.args.opened.0.row c.args.opened.1.items c.in_ok-answers.field-0 c.requires.opened c.in_ok-answers.ensures.run
    c.close_listing-dump.result.0 c.close_listing-dump.result.1 c.close_listing-dump.ensures

pub returns-clause-summary : goal.returns-clause-summary
returns-clause-summary g c = closed_behind g.N.NativeCode.tells (g.N.NativeCode.deed c.args.native.now)
    c.args.opened.0.row c.args.opened.1.items c.in_ok-answers.field-0 c.requires.opened c.in_ok-answers.ensures.run
    c.close_listing-dump.result.0 c.close_listing-dump.ensures.closes
