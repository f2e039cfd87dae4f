use Rattle.std.proofs.Common.{Some}
use Rattle.jr_owned.proofs.code.spawn_owned.Given as goal

abbrev pub ghosts-start_each : goal.ghosts-start_each
ghosts-start_each g a = record { room = Some a.room.row.table.shared.table_id; sizes = a.room.row.config }
