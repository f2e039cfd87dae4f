use Rattle.jr_model.proofs.OpenStays.{goes_on_with_its_acts, no_collection_in_open_stay, no_collection_up_to_exit}
use Rattle.jr_model.proofs.laws.open_stays_exclude_collections.Goals as goal

pub returns-clause-goes : goal.returns-clause-goes
returns-clause-goes c = goes_on_with_its_acts

pub returns-clause-stands : goal.returns-clause-stands
returns-clause-stands c = no_collection_in_open_stay

pub returns-clause-left : goal.returns-clause-left
returns-clause-left c = no_collection_up_to_exit
