-- The first collection was refused, and the second got its turn: over a marker that fits the room.
use Rattle.std.proofs.Common.{◌∙◌, ap, refl, sym}
use Rattle.jr_word.specs.declared.config.Config.{Config}
use Rattle.jr_steps.specs.Knowing.{Standing}
use Rattle.jr_frames.specs.Table.{Table}
use Rattle.jr_threads.proofs.Stories.{behind_note, call_then, call_told}
use Rattle.first_room.proofs.Played.{in_turn, kept_out}
use Rattle.first_room.proofs.collect_twice.Goals as goal

pub returns : goal.returns
returns g c =
    let one = c.in_ok-give_turn.ensures in
    let two = c.in_ok-give_turn-2.ensures in
    let three = c.in_ok-give_turn-3.ensures in
    let stood = two.same.stands_is ∙ one.same.stands_is in
    let out = ap (λ (z : Standing). z.role) one.same.stands_is ∙ c.requires in
    let still = ap (λ (z : Standing). z.role) two.same.stands_is ∙ out in
    let fits = c.in_ok-marker.ensures.room ∙ sym (ap (λ (z : Standing). z.config.objects) stood) in
    let busy = c.in-Err-Busy.ensures.call fits in
    let kept = kept_out still _ c.in-Err-Busy.inside c.in-Err-Busy.field-0-is busy in
    let same = ap (λ (z : Standing). z.config) three.same.stands_is ∙ (kept.does still).stands_is.config in
    let done = c.in_ok-collect_in_turn.ensures.call
    (c.collect.ensures.room ∙ (fits ∙ sym (ap (λ (k : Config). k.objects) same))) in
    let turned = ap (λ (z : Standing). z.role) three.same.stands_is ∙ kept.outside in
    let frames = λ (t : Table). t.frames in
    behind_note c.requires one.same (ap frames one.frames) (behind_note out two.same (ap frames two.frames)
    (call_then _ still kept (behind_note kept.outside three.same (ap frames three.frames)
    (call_told (λ _. c.in-Err-Busy.inside) c.in_ok-collect_in_turn.field-0 refl turned
    (in_turn turned _ c.in_ok-collect_in_turn.field-0 done)))))
