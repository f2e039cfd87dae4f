-- The calls were made one after the other.
use Rattle.std.proofs.Common.{refl}
use Rattle.jr_threads.proofs.Stories.{call_then, call_told}
use Rattle.first_room.proofs.clear.Goals as goal

pub returns : goal.returns
returns g c =
    let compared = c.in_ok-cleared.ensures in
    let deleted = c.in_ok-delete_global_ref.ensures in
    call_then _ c.requires compared (call_then _ compared.outside deleted
    (call_told (λ k. (c.in_ok-cleared.cleared, k)) c.in_ok-kind.kind refl deleted.outside c.in_ok-kind.ensures))
