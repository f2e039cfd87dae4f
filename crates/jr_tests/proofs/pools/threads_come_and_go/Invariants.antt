use Rattle.std.proofs.Common.{Some}
use Rattle.jr_tests.proofs.pools.threads_come_and_go.Given as goal

abbrev pub ghosts-serves : goal.ghosts-serves
ghosts-serves g a = record { room = Some a.room.room.row.table.shared.table_id; sizes = a.room.room.row.config }
