use Rattle.jr_env.proofs.TellingCalls.{did_beneath}
use Rattle.jr_env.proofs.env_interface.AnyNativeEnv.push_local_frame.Goals as goal

pub returns : goal.returns
returns g c = did_beneath _ _ _ _ _ _ _ _ _ c.env.result.now c.env.ensures.value c.push_local_frame-answer.new.self
    c.push_local_frame-answer.ensures c.tell_refusal.ensures
