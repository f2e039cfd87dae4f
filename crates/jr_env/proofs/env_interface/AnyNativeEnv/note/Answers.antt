use Rattle.jr_env.proofs.TellingCalls.{leaves_env}
use Rattle.jr_env.proofs.env_interface.AnyNativeEnv.note.Goals as goal

pub returns-clause-same : goal.returns-clause-same
returns-clause-same g c =
    let same = c.note.ensures.same in
    leaves_env _ _ _ _ c.env.result.now c.env.ensures.value c.note.new.self
    (same.0, same.1, same.2, c.note.ensures.counted.0, c.note.ensures.counted.1)
