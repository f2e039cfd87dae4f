use Rattle.jr_world.proofs.Fullness.RowRoom.{births_fill_the_row}
use Rattle.jr_world.proofs.laws.births_fill_the_row.Goals as goal

pub returns : goal.returns
returns c = births_fill_the_row
