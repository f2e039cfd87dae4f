-- What the region's calls say of the env that it borrowed, which it hands back.
use Rattle.std.proofs.Common.{Ok, IfOk, rules}
use Rattle.std.specs.Int.{w32}
use Rattle.jr_word.specs.Elem.{signed_word}
use Rattle.jr_env.specs.Envs.{Does}
use Rattle.first_room.specs.Calls.{reading_within}
use Rattle.first_room.proofs.Played.{reads_within}
use Rattle.first_room.proofs.read_within.Goals as goal

pub returns : goal.returns
returns g c =
    let opened = c.in_ok-region.ensures.opened in
    let read : IfOk c.get-read.result
    (λ x. Does c.args.env.now c.release_all.result.now (reading_within c.args.array.0) (Ok (signed_word w32 x))) =
    reads_within {facts = g.S.Steps.facts} g.met.S.Steps.fits _ _ _ _ _ _ _ _ _ _ _ _ c.requires
    (opened.opens c.requires) opened.one opened.frames c.get-read.ensures.frames c.release_all.ensures.frames
    c.get-read.ensures.levels
    (c.get-read.ensures.call).did c.release_all.ensures.call c.release_all.ensures.outside in
    search rules
