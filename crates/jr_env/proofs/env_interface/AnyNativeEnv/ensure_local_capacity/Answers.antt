use Rattle.jr_env.proofs.TellingCalls.{did_beneath}
use Rattle.jr_env.proofs.env_interface.AnyNativeEnv.ensure_local_capacity.Goals as goal

pub returns : goal.returns
returns g c = did_beneath _ _ _ _ _ _ _ _ _ c.env.result.now c.env.ensures.value c.ensure_local_capacity-answer.new.self
    c.ensure_local_capacity-answer.ensures c.tell_refusal.ensures
