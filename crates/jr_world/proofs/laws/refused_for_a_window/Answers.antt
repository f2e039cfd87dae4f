use Rattle.jr_world.proofs.Fullness.{refused_for_a_window}
use Rattle.jr_world.proofs.laws.refused_for_a_window.Goals as goal

pub returns : goal.returns
returns c = refused_for_a_window
