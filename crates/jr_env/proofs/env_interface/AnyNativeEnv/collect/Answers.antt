use Rattle.jr_env.proofs.TellingCalls.{did_beneath}
use Rattle.jr_env.proofs.env_interface.AnyNativeEnv.collect.Goals as goal

pub returns-clause-call : goal.returns-clause-call
returns-clause-call g c = did_beneath _ _ _ _ _ _ _ _ _ c.env.result.now c.env.ensures.value c.collect-answer.new.self
    (record {
      fits = c.collect-answer.ensures.call;
      size = c.collect-answer.ensures.size;
      same = c.collect-answer.ensures.same;
    })
    c.tell_refusal.ensures
