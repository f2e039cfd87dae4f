use Rattle.jr_threads.proofs.GivenBack.{back, closed_behind, ran_together}
use Rattle.jr_threads.proofs.Passes.{each_has, each_out, first_at, others_at}
use Rattle.jr_threads.proofs.running.run_in.Goals as goal

pub close-requires : goal.close-requires
close-requires g c =
    let r = c.args.room.row in
    let ps = c.args.passes.items in
    let x = c.in_ok-answers.field-0 in
    let came = back g.N.NativeCode.tells (g.N.NativeCode.deed c.args.native.now) r ps x c.requires.opened
    c.in_ok-answers.ensures.run in
    record {
      first = first_at r ps x.first x.others.items came;
      others = others_at r ps x.first x.others.items came;
      each = each_has r ps x.first x.others.items c.requires.opened came;
      outside = each_out r ps x.first x.others.items came;
      marker = c.requires.marker;
    }

pub returns-clause-run : goal.returns-clause-run
returns-clause-run g c = ran_together g.N.NativeCode.tells (g.N.NativeCode.deed c.args.native.now) c.args.room.row
    c.args.passes.items c.in_ok-answers.field-0 c.requires.opened c.in_ok-answers.ensures.run c.close.result
    c.close.ensures

pub returns-clause-summary : goal.returns-clause-summary
returns-clause-summary g c = closed_behind g.N.NativeCode.tells (g.N.NativeCode.deed c.args.native.now)
    c.args.room.row c.args.passes.items c.in_ok-answers.field-0 c.requires.opened c.in_ok-answers.ensures.run
    c.close.result c.close.ensures
