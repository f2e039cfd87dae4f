use Rattle.jr_env.proofs.TellingCalls.{did_beneath}
use Rattle.jr_env.proofs.env_interface.AnyNativeEnv.explain.Goals as goal

pub returns : goal.returns
returns g c = did_beneath _ _ _ _ _ _ _ _ _ c.env.result.now c.env.ensures.value c.explain-answer.new.self
    c.explain-answer.ensures c.tell_refusal.ensures
