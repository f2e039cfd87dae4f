use Rattle.jr_world.proofs.Fullness.{not_full_without_the_bound}
use Rattle.jr_world.proofs.laws.not_full_without_the_bound.Goals as goal

pub returns : goal.returns
returns c = not_full_without_the_bound
