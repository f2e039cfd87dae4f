use Rattle.jr_env.proofs.TellingCalls.{leaves_env}
use Rattle.jr_env.proofs.env_interface.AnyNativeEnv.learn.Goals as goal

pub returns : goal.returns
returns g c =
    let e = c.learn.ensures in
    leaves_env _ _ _ _ c.env.result.now c.env.ensures.value c.learn.new.self
    (e.step, e.learned, e.counted, e.frames, e.numbers)
