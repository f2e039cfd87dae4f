use Rattle.jr_world.proofs.Fullness.{windows_are_full}
use Rattle.jr_world.proofs.laws.windows_are_full.Goals as goal

pub returns : goal.returns
returns c = windows_are_full
