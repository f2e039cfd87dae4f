use Rattle.jr_heap.proofs.Lists.{headers_hold}
use Rattle.jr_heap.proofs.laws.headers_hold.Goals as goal

pub returns : goal.returns
returns c = headers_hold
