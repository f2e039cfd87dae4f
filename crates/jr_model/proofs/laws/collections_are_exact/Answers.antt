use Rattle.jr_model.proofs.Exactly.{collection_is_exact}
use Rattle.jr_model.proofs.laws.collections_are_exact.Goals as goal

pub returns : goal.returns
returns c = collection_is_exact
