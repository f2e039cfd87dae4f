use Rattle.jr_model.proofs.Grounded.{refused_in_its_stay, each_is_probed}
use Rattle.jr_model.proofs.EachCall.{calls_refuse_truly, parts_refuse_truly}
use Rattle.jr_model.proofs.laws.refusals_are_true.Goals as goal

pub returns-clause-calls : goal.returns-clause-calls
returns-clause-calls c = calls_refuse_truly

pub returns-clause-parts : goal.returns-clause-parts
returns-clause-parts c = parts_refuse_truly

pub returns-clause-stay : goal.returns-clause-stay
returns-clause-stay c = refused_in_its_stay

pub returns-clause-probes : goal.returns-clause-probes
returns-clause-probes c = each_is_probed
