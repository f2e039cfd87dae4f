use Rattle.jr_model.proofs.Announcements.{nobody_enters}
use Rattle.jr_model.proofs.laws.nobody_enters_an_announced_gate.Goals as goal

pub returns : goal.returns
returns c = nobody_enters
