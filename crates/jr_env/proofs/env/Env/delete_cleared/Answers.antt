use Rattle.jr_env.proofs.Remedies.{left_alone, not_compared, not_deleted, was_deleted}
use Rattle.jr_env.proofs.env.Env.delete_cleared.Goals as goal

pub returns-in_err-retry : goal.returns-in_err-retry
returns-in_err-retry g c = not_compared c.from_residual.result c.from_residual.ensures.1 c.in_err-retry.ensures

pub returns-in_err-retry-2 : goal.returns-in_err-retry-2
returns-in_err-retry-2 g c =
    not_deleted c.from_residual-in_err-retry-2.result c.from_residual-in_err-retry-2.ensures.1 c.if-branch.true
    c.in_ok-retry.ensures c.in_err-retry-2.ensures

pub returns-then-branch : goal.returns-then-branch
returns-then-branch g c = was_deleted c.if-branch.true c.in_ok-retry.ensures c.in_ok-retry-2.ensures

pub returns : goal.returns
returns g c = left_alone c.if-branch.false c.in_ok-retry.ensures
