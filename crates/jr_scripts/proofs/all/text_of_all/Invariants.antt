use Rattle.std.proofs.Common.{Some}
use Rattle.jr_scripts.proofs.all.text_of_all.Given as goal

abbrev pub ghosts-text_in_room : goal.ghosts-text_in_room
ghosts-text_in_room g a = record { room = Some a.room.row.table.shared.table_id; sizes = a.room.row.config }
