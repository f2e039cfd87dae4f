use Rattle.std.proofs.Common.{Some}
use Rattle.jr_tests.proofs.pools.an_env_serves_one_thread_at_a_time.Given as goal

abbrev pub ghosts-serves_one_at_a_time : goal.ghosts-serves_one_at_a_time
ghosts-serves_one_at_a_time g a =
    record { room = Some a.room.room.row.table.shared.table_id; sizes = a.room.room.row.config }
