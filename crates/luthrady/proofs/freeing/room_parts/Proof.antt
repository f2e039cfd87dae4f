-- `room_parts` moves two fields, and what they own goes with them.
use Rattle.luthrady.specs.contracts.freeing.room_parts as f
use Rattle.luthrady.specs.contracts.handles.RoomHandle.{the_type}
use Rattle.luthrady.specs.contracts.held.Opened.{the_type as inner}
use Rattle.luthrady.proofs.held.Opened.TheLaws.{the_row_laws}
use Rattle.luthrady.proofs.freeing.room_parts.Statement.{statement}
use Rattle.luthrady.proofs.freeing.room_parts.Code as code
use Rattle.luthrady.proofs.Emptying.{parts_made}

pub room_parts_spec : {M : Type 1} → statement M
room_parts_spec 𝓤 𝓛 𝓜 𝓡 wired =
    parts_made the_type inner the_row_laws (λ h. h.at) (λ h. h.alloc) (λ h. h.value) 𝓛 𝓜 𝓡 f.Key.name
    (code.unfolded 𝓤 𝓛.H 𝓜 𝓡 wired)
