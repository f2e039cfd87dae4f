use Rattle.jr_model.proofs.EachCall.{refusals_change_nothing, refused_parts_change_nothing}
use Rattle.jr_model.proofs.RefusedCalls.{harmless_changes_nothing}
use Rattle.jr_model.proofs.laws.refusals_change_nothing.Goals as goal

pub returns-clause-calls : goal.returns-clause-calls
returns-clause-calls c = refusals_change_nothing

pub returns-clause-parts : goal.returns-clause-parts
returns-clause-parts c = refused_parts_change_nothing

pub returns-clause-acts : goal.returns-clause-acts
returns-clause-acts c = harmless_changes_nothing
