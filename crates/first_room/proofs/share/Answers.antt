-- The thread did its calls, one after the other; and what it handed on says what it had done by then.
use Rattle.std.proofs.Common.{◌∙◌, ap, refl}
use Rattle.jr_steps.specs.Knowing.{Standing}
use Rattle.jr_frames.specs.Table.{Table}
use Rattle.jr_env.specs.Deeds.{done, ◌>>=◌}
use Rattle.jr_threads.proofs.Starting.{comes_of}
use Rattle.jr_threads.proofs.Stories.{behind_note, call_then, call_told}
use Rattle.first_room.specs.declared.message.Found.TheVariants.{Shared}
use Rattle.first_room.specs.Calls.{clearing, collecting_twice, preparing}
use Rattle.first_room.proofs.share.Goals as goal

pub hand-requires : goal.hand-requires
hand-requires g c = (
  c.in_ok-weak.weak.0,
  comes_of g.met.S.Steps.fits g.Q.Site.sizes 4294967295 0 preparing _ _ _ _
      (c.in_ok-weak.weak.0, c.in_ok-weak.global.0) _ c.requires c.in_ok-weak.ensures c.note-note.ensures.note,
)

pub returns : goal.returns
returns g c =
    let made = c.in_ok-weak.ensures in
    let twice = c.in_ok-inside.ensures in
    let same = c.note-note.ensures.same in
    let inside = c.in_ok-inside.inside in
    call_then {one = preparing} (λ words. collecting_twice
    >>= (λ n. clearing words.0 words.1 >>= (λ found. done (Shared n found.0 found.1)))) c.requires.steps.outside made
    (behind_note made.outside same.0 (ap (λ (t : Table). t.frames) same.1)
    (call_then {one = collecting_twice} (λ n. clearing c.in_ok-weak.weak.0 c.in_ok-weak.global.0
    >>= (λ found. done (Shared n found.0 found.1)))
    (ap (λ (z : Standing). z.role) same.0.stands_is ∙ made.outside) twice
    (call_told {one = clearing c.in_ok-weak.weak.0 c.in_ok-weak.global.0} (λ found. Shared inside found.0 found.1)
    (c.in_ok-cleared.cleared, c.in_ok-cleared.kind) refl twice.outside c.in_ok-cleared.ensures)))
