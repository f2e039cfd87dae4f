use Rattle.one_order.proofs.OneOrder.{one_order}
use Rattle.one_order.proofs.laws.there_is_one_order.Goals as goal

pub returns : goal.returns
returns g c = λ board rank whole stories a. one_order board rank whole stories a
