use Rattle.std.proofs.Common.{◌∙◌}
use Rattle.jr_owned.proofs.Owners.{passes_long}
use Rattle.jr_owned.proofs.pool.PoolOver+OwnedStepsOf+Q.of.Goals as goal

pub returns-clause-count : goal.returns-clause-count
returns-clause-count g c = c.in-Ok.ensures ∙ passes_long c.args.room.room.row.config 4294967295 c.args.room.room.row
    c.args.room.passes.items c.args.room.opened
