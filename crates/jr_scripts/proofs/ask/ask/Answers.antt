use Rattle.jr_env.proofs.Carrying.{did_answer, did_refuse}
use Rattle.jr_scripts.proofs.ask.ask.Goals as goal

pub returns-in_err-answer : goal.returns-in_err-answer
returns-in_err-answer g c =
    did_refuse g.C.Answer.IntoReply.reply c.from_residual.result c.from_residual.ensures.1 c.in_err-answer.ensures

pub returns : goal.returns
returns g c = did_answer g.C.Answer.IntoReply.reply c.into_reply.ensures c.in_ok-answer.ensures
