use Rattle.jr_world.proofs.Fullness.RowBirths.{row_is_born}
use Rattle.jr_world.proofs.laws.row_is_born.Goals as goal

pub returns : goal.returns
returns c = row_is_born
