use Rattle.jr_env.proofs.TellingCalls.{did_beneath}
use Rattle.jr_env.proofs.env_interface.AnyNativeEnv.collect_announced.Goals as goal

pub returns-clause-call : goal.returns-clause-call
returns-clause-call g c = did_beneath _ _ _ _ _ _ _ _ _ c.env.result.now c.env.ensures.value
    c.collect_announced-answer.new.self (
      record {
        fits = c.collect_announced-answer.ensures.call;
        size = c.collect_announced-answer.ensures.size;
        same = c.collect_announced-answer.ensures.same;
      },
      c.collect_announced-answer.ensures.counted,
    )
    c.tell_refusal.ensures
