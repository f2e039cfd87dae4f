use Rattle.std.proofs.Common.{Some}
use Rattle.jr_tests.proofs.closing.a_pool_names_a_leak.Given as goal

abbrev pub ghosts-closes_listing : goal.ghosts-closes_listing
ghosts-closes_listing g a =
    record { room = Some a.room.room.row.table.shared.table_id; sizes = a.room.room.row.config }
