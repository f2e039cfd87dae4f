-- `is_null_env` asks whether the pointer is NULL.
use Rattle.luthrady.specs.contracts.behind.is_null_env as f
use Rattle.luthrady.specs.contracts.handles.EnvHandle.{the_type}
use Rattle.luthrady.specs.contracts.held.EnvPlace.{the_row}
use Rattle.luthrady.proofs.behind.is_null_env.Statement.{statement}
use Rattle.luthrady.proofs.behind.is_null_env.Code as code
use Rattle.luthrady.proofs.Asking.{asks}

pub is_null_env_spec : {M : Type 1} → statement M
is_null_env_spec 𝓤 𝓛 𝓜 𝓡 wired =
    asks the_type the_row (λ h. h.at) (λ h. h.alloc) (λ h. h.value) 𝓛 𝓜 𝓡
    f.Key.name (code.unfolded 𝓤 𝓛.H 𝓜 𝓡 wired)
