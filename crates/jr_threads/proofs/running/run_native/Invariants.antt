use Rattle.std.proofs.Common.{Some}
use Rattle.jr_threads.proofs.running.run_native.Given as goal

abbrev pub ghosts-run_in : goal.ghosts-run_in
ghosts-run_in g a = record { room = Some a.room.row.table.shared.table_id; sizes = a.room.row.config }
