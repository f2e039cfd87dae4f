use Rattle.jr_stressed.proofs.Begun.{handed, refused_first}
use Rattle.jr_stressed.proofs.stressed.StressedNativeCaller.make.Goals as goal

pub returns-in_err-begin : goal.returns-in_err-begin
returns-in_err-begin g c = refused_first c.demand.ensures c.in_err-begin.ensures.begun c.in_err-begin.ensures.listed
    (handed c.from_residual.result c.from_residual.ensures.1)
