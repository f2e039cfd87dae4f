use Rattle.luthrady.proofs.ClearedOnce.{left_alone, not_compared, not_deleted, was_deleted}
use Rattle.luthrady.proofs.clearing.DeleteClearedThreadCall.by.Goals as goal

pub returns-in_err-make-clause-call : goal.returns-in_err-make-clause-call
returns-in_err-make-clause-call c =
    not_compared c.from_residual.result c.from_residual.ensures.1 c.in_err-make.ensures

pub returns-in_err-make-2-clause-call : goal.returns-in_err-make-2-clause-call
returns-in_err-make-2-clause-call c =
    not_deleted c.from_residual-in_err-make-2.result c.from_residual-in_err-make-2.ensures.1 c.if-branch.true
    c.in_ok-make.ensures c.in_err-make-2.ensures

pub returns-then-branch-clause-call : goal.returns-then-branch-clause-call
returns-then-branch-clause-call c = was_deleted c.if-branch.true c.in_ok-make.ensures c.in_ok-make-2.ensures

pub returns-clause-call : goal.returns-clause-call
returns-clause-call c = left_alone c.if-branch.false c.in_ok-make.ensures
