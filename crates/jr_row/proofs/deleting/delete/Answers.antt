use Rattle.std.proofs.Common.{sym}
use Rattle.jr_row.proofs.LookAndExchange.{deleted_none, may_delete, deleted_won, deleted_lost}
use Rattle.jr_row.proofs.deleting.delete.Goals as goal

pub returns-in_err-object : goal.returns-in_err-object
returns-in_err-object g c = deleted_none c.args.handle c.look.result c.look.ensures c.from_residual.result
    (sym c.in_err-object.ensures) c.from_residual.ensures.1

pub free-requires-clause-looked : goal.free-requires-clause-looked
free-requires-clause-looked g c = may_delete c.args.handle c.look.result c.look.ensures c.in_ok-object.object
    (sym c.in_ok-object.ensures) (g.met.S.Steps.some_known c.args.steps.now)

pub returns-then-free : goal.returns-then-free
returns-then-free g c = deleted_won c.args.handle c.look.result c.look.ensures c.in_ok-object.object
    (sym c.in_ok-object.ensures) c.if-free.ensures

pub returns-else-free : goal.returns-else-free
returns-else-free g c = deleted_lost c.args.handle c.look.result c.look.ensures c.in_ok-object.object
    (sym c.in_ok-object.ensures) c.if-free.ensures
