use Rattle.std.proofs.Common.{refl}
use Rattle.luthrady.proofs.AllElements.{read_none, read_these}
use Rattle.luthrady.proofs.OwnRegions.{handed}
use Rattle.luthrady.proofs.copies.read_all.Goals as goal

-- src/copies.rt
pub returns-in_err-are_all-clause-call : goal.returns-in_err-are_all-clause-call
returns-in_err-are_all-clause-call g c = read_none _ _ _ _ _ _ _ _ _ c.KIND.ensures c.in_err-are_all.ensures
    (handed _ _ c.from_residual.ensures.1) refl

pub returns-clause-call : goal.returns-clause-call
returns-clause-call g c = read_these _ _ _ _ _ _ _ c.KIND.ensures c.in_ok-are_all.ensures c.get_part.ensures.call
