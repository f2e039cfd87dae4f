-- The request that was replied to is the one that the words ask for.
use Rattle.std.proofs.lemmas.Result.{IfOk-weaker, IfErr-weaker}
use Rattle.jrefs.proofs.Ending.{refused_prevents, stopped_prevents}
use Rattle.jrefs.proofs.act.output_of.Goals as goal

pub returns-clause-ok : goal.returns-clause-ok
returns-clause-ok g c = IfOk-weaker c.reply_to.result _ _
    (λ output is. (c.in_ok-request.request, c.in_ok-request.ensures.ok, is)) c.reply_to.ensures.ok

pub returns-clause-err : goal.returns-clause-err
returns-clause-err g c = IfErr-weaker c.reply_to.result _ _ (λ t stops.
    stopped_prevents t _ _ _ c.in_ok-request.request c.in_ok-request.ensures.ok stops) c.reply_to.ensures.err

pub returns-in_err-request-clause-err : goal.returns-in_err-request-clause-err
returns-in_err-request-clause-err g c = refused_prevents c.from_residual.result c.in_err-request.field-0.0 _ _ _
    c.from_residual.ensures.1 c.in_err-request.ensures.err c.in_err-request.ensures.nothing
