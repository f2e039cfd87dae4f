use Rattle.jr_env.proofs.TellingCalls.{leaves_env}
use Rattle.jr_env.proofs.env_interface.AnyNativeEnv.learn_pinned.Goals as goal

pub returns : goal.returns
returns g c =
    let e = c.learn_pinned.ensures in
    leaves_env _ _ _ _ c.env.result.now c.env.ensures.value c.learn_pinned.new.self
    ((λ t. (e.step t, e.learned t, e.counted.0 t)), (λ f. (e.busy f, e.counted.1 f)), e.frames, e.numbers)
