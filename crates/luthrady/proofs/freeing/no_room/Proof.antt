-- `no_room` puts NULL and the allocator together, and owns nothing behind the pointer.
use Rattle.std.proofs.Common.{refl}
use Rattle.luthrady.specs.contracts.freeing.no_room as f
use denote.RawPtr.{null_ptr}
use Rattle.luthrady.specs.contracts.handles.RoomHandle.{the_type}
use Rattle.luthrady.specs.contracts.held.Opened.{the_row}
use Rattle.luthrady.proofs.freeing.no_room.Statement.{statement}
use Rattle.luthrady.proofs.freeing.no_room.Code as code
use Rattle.luthrady.proofs.Emptying.{null_made}

pub no_room_spec : {M : Type 1} → statement M
no_room_spec 𝓤 𝓛 𝓜 𝓡 wired =
    null_made the_type the_row (λ h. h.at) (λ h. h.alloc) (λ h. h.value)
    (λ a v. record { at = null_ptr; alloc = a; value = v }) (λ a v. refl) 𝓛 𝓜 𝓡 f.Key.name
    (code.unfolded 𝓤 𝓛.H 𝓜 𝓡 wired)
