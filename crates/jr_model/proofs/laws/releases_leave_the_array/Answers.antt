use Rattle.jr_model.proofs.Writes.{release_leaves}
use Rattle.jr_model.proofs.laws.releases_leave_the_array.Goals as goal

pub returns : goal.returns
returns c = release_leaves
