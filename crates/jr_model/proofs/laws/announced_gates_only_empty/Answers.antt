use Rattle.jr_model.proofs.Announcements.{within_only_leave}
use Rattle.jr_model.proofs.laws.announced_gates_only_empty.Goals as goal

pub returns : goal.returns
returns c = within_only_leave
