-- What holds whatever is answered.
use Rattle.std.proofs.Common.{Err, IfOk, Ok, Result}

pub whatever : {A E P : Type 0} (r : Result A E) → P → IfOk r (λ x. P)
whatever (Ok x) p = p
whatever (Err e) p = tt
