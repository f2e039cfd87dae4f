use Rattle.jr_env.proofs.TellingCalls.{did_beneath}
use Rattle.jr_env.proofs.env_interface.AnyNativeEnv.words_used.Goals as goal

pub returns : goal.returns
returns g c = did_beneath _ _ _ _ _ _ _ _ _ c.env.result.now c.env.ensures.value c.words_used-answer.new.self
    c.words_used-answer.ensures c.tell_refusal.ensures
