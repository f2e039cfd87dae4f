use Rattle.jr_model.proofs.References.{cleared_until_deleted, stands_until_deleted}
use Rattle.jr_model.proofs.laws.references_stand_until_deleted.Goals as goal

pub returns-clause-object : goal.returns-clause-object
returns-clause-object c = stands_until_deleted

pub returns-clause-cleared : goal.returns-clause-cleared
returns-clause-cleared c = cleared_until_deleted
