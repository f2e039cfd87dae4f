-- The thread learned the note, and did its calls, one after the other.
use Rattle.std.proofs.Common.{◌≡◌, ◌∙◌, FitsSigned, ap, of_z, refl, rules, subst, sym, to_z}
use Rattle.std.specs.Int.{w32}
use Rattle.jr_word.specs.Elem.{signed_of, signed_word}
use Rattle.jr_word.specs.ElementLaws.{i32_laws}
use Rattle.jr_rule.specs.Rooms.{seen_by_note}
use Rattle.jr_frames.specs.Table.{Table}
use Rattle.jr_env.specs.Deeds.{done, ◌>>=◌, ◌>>◌}
use Rattle.jr_env.proofs.Carrying.{did_more}
use Rattle.jr_threads.proofs.Stories.{call_then, call_told, outside_did, took_over}
use Rattle.first_room.specs.declared.message.Found.TheVariants.{Visited}
use Rattle.first_room.specs.declared.message.Handed.TheVariants.{Reference}
use Rattle.first_room.specs.Calls.{is_handed, making_own, message_says, reading_within}
use Rattle.first_room.proofs.visit.Goals as goal

pub returns : goal.returns
returns g c =
    let handed = c.in-Ok-Reference-default in
    let global = handed.global in
    let note = handed.note.note in
    let out = c.requires.outside in
    let frames = ap (λ (t : Table). t.frames) c.learn.ensures.frames in
    let said = subst (λ m. ∥ message_says m g.Q.Site.sizes (seen_by_note note) ∥₁) handed.field-0-0-is handed.ensures in
    let taken = took_over {facts = g.S.Steps.facts} g.met.S.Steps.fits message_says g.Q.Site.sizes _ _ _ _
    (Reference global) note out c.requires.sizes c.learn.ensures.step c.learn.ensures.learned frames said in
    let begun = outside_did {facts = g.S.Steps.facts} out
    (did_more {two = is_handed} (λ p q d. (global, refl, d)) (taken.does out)) in
    let own = c.in_ok-make_own.ensures in
    let read = c.in_ok-read.read in
    let same : to_z w32 (of_z w32 read) ≡ read = search rules in
    let fits : FitsSigned w32 read = search rules in
    call_then {facts = g.S.Steps.facts} {one = is_handed}
    (λ v. making_own >> (reading_within v >>= (λ x. done (Visited (signed_of w32 x))))) out begun
    (call_then {one = making_own} (λ _. reading_within global.0 >>= (λ x. done (Visited (signed_of w32 x))))
    begun.outside own (call_told {one = reading_within global.0} (λ x. Visited (signed_of w32 x)) (signed_word w32 read)
    (ap (λ z. Visited z) (same ∙ sym (i32_laws.takes_back read fits))) own.outside c.in_ok-read.ensures))
