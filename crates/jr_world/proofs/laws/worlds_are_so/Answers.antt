use Rattle.jr_world.proofs.Births.{worlds_are_so}
use Rattle.jr_world.proofs.laws.worlds_are_so.Goals as goal

pub returns : goal.returns
returns c = worlds_are_so
