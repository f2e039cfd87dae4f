use Rattle.jr_census.proofs.Foretold.{collection_is_foretold}
use Rattle.jr_census.proofs.laws.censuses_foretell_collections.Goals as goal

pub returns : goal.returns
returns c = collection_is_foretold
