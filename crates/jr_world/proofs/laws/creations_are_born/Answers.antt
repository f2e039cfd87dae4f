use Rattle.jr_world.proofs.Fullness.RowBirths.{creations_are_born}
use Rattle.jr_world.proofs.laws.creations_are_born.Goals as goal

pub returns : goal.returns
returns c = creations_are_born
