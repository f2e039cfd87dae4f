use Rattle.std.proofs.Common.{subst, sym}
use Rattle.jr_critical.specs.Levels.{StandOver}
use Rattle.jr_env.specs.declared.env.Env.{Env}
use Rattle.jr_env.proofs.env_interface.AnyNativeEnv.retry_array_critical.Goals as goal

pub over-requires : goal.over-requires
over-requires g c = subst (λ (e : Env g.row.S.Denot g.S.Steps). StandOver c.in_ok-levels.levels e.held)
    (sym c.env.ensures.value) c.in_ok-levels.ensures.stand
