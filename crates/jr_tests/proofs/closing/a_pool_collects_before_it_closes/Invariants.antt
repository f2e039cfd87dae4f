use Rattle.std.proofs.Common.{Some}
use Rattle.jr_tests.proofs.closing.a_pool_collects_before_it_closes.Given as goal

abbrev pub ghosts-closes_collected : goal.ghosts-closes_collected
ghosts-closes_collected g a =
    record { room = Some a.room.room.row.table.shared.table_id; sizes = a.room.room.row.config }
