-- The calls were made one after the other.
use Rattle.std.proofs.Common.{refl}
use Rattle.jr_threads.proofs.Stories.{call_then, call_told}
use Rattle.first_room.proofs.make_own.Goals as goal

pub returns : goal.returns
returns g c =
    let pushed = c.in_ok-push_local_frame.ensures in
    let plain = c.in_ok-object.ensures in
    let made = c.in_ok-new_object_array.ensures in
    call_then _ c.requires pushed (call_then _ pushed.outside plain (call_then _ plain.outside made
    (call_told (λ _. tt) c.in_ok-pop_local_frame.field-0 refl made.outside c.in_ok-pop_local_frame.ensures)))
