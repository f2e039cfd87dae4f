use Rattle.jr_model.proofs.Histories.{legal_goes_by_step}
use Rattle.jr_model.proofs.laws.legal_histories_go_by_steps.Goals as goal

pub returns : goal.returns
returns c = legal_goes_by_step
