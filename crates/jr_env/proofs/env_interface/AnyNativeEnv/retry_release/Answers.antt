use Rattle.jr_env.proofs.TellingCalls.{leaves_env}
use Rattle.jr_env.proofs.env_interface.AnyNativeEnv.retry_release.Goals as goal

pub returns-in-Ok-clause-writes : goal.returns-in-Ok-clause-writes
returns-in-Ok-clause-writes g c w = c.in-Ok.ensures

pub returns-in-Err-clause-writes : goal.returns-in-Err-clause-writes
returns-in-Err-clause-writes g c w = c.in-Err.ensures

pub returns-then-not-copies_back-clause-aborts : goal.returns-then-not-copies_back-clause-aborts
returns-then-not-copies_back-clause-aborts g c a =
    leaves_env _ _ _ _ c.env.result.now c.env.ensures.value c.retry_release.new.self c.retry_release.ensures.call
