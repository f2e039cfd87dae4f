-- The calls were made one after the other.
use Rattle.jr_threads.proofs.Stories.{call_then, call_told}
use Rattle.first_room.specs.Calls.{word_made}
use Rattle.first_room.proofs.Played.{word_or_null}
use Rattle.first_room.proofs.prepare.Goals as goal

pub returns : goal.returns
returns g c =
    let weak = word_or_null c.in_ok-new_weak_global_ref.field-0 c.unwrap_or-weak.result c.unwrap_or-weak.ensures in
    let global = word_or_null c.in_ok-new_global_ref.field-0 c.unwrap_or-global.result c.unwrap_or-global.ensures in
    let pushed = c.in_ok-push_local_frame.ensures in
    let lost = c.in_ok-lost.ensures in
    let named = c.in_ok-new_weak_global_ref.ensures in
    let made = c.in_ok-array.ensures in
    let filled = c.in_ok-set_array_region.ensures in
    let shared = c.in_ok-new_global_ref.ensures in
    call_then _ c.requires pushed (call_then _ pushed.outside lost (call_then _ lost.outside named
    (call_then _ named.outside made (call_then _ made.outside filled (call_then _ filled.outside shared
    (call_told (λ _. (word_made c.in_ok-new_weak_global_ref.field-0, word_made c.in_ok-new_global_ref.field-0))
    c.in_ok-pop_local_frame.field-0 (λ i. (weak i, global i)) shared.outside c.in_ok-pop_local_frame.ensures))))))
