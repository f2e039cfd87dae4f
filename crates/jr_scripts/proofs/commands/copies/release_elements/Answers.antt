use Rattle.std.proofs.Common.{Err, map, refl}
use Rattle.jr_env.specs.Deeds.{release_array_elements}
use Rattle.jr_env.proofs.Carrying.{did_more, does_nothing}
use Rattle.jr_scripts.specs.Commands.{tried}
use Rattle.jr_scripts.proofs.Retries.{tried_in_turns, tried_never}
use Rattle.jr_scripts.proofs.CopyDeeds.{does_release_done, does_release_refused, release_handed}
use Rattle.jr_scripts.proofs.commands.copies.release_elements.Goals as goal

pub returns-in-Err-clause-call : goal.returns-in-Err-clause-call
returns-in-Err-clause-call g c =
    does_release_refused {one = tried c.args.turns (release_array_elements g.E.Elem.KIND c.args.array.0
    (map g.E.Elem.word_of c.args.elements) c.args.mode)} c.in-Err.fault
    (does_nothing (λ p. tried_never c.in-Err.fault (Err c.in-Err.fault) refl c.in-Err.ensures))

pub returns-in-Ok-retry_release-clause-call : goal.returns-in-Ok-retry_release-clause-call
returns-in-Ok-retry_release-clause-call g c =
    let words = map g.E.Elem.word_of in
    let left = c.in-Ok-retry_release.left in
    does_release_done {one = tried c.args.turns (release_array_elements g.E.Elem.KIND c.args.array.0
    (words c.args.elements) c.args.mode)} words left
    (did_more (λ p q t. tried_in_turns c.in-Ok.patience _ _ c.in-Ok.ensures t (release_handed words left))
    (c.in-Ok-retry_release.ensures.call.does c.requires))

pub returns-in-Err-retry_release-clause-call : goal.returns-in-Err-retry_release-clause-call
returns-in-Err-retry_release-clause-call g c =
    does_release_refused {one = tried c.args.turns (release_array_elements g.E.Elem.KIND c.args.array.0
    (map g.E.Elem.word_of c.args.elements) c.args.mode)} c.no_more.result
    (did_more (λ p q t. tried_in_turns c.in-Ok.patience (Err c.in-Err-retry_release.fault) (Err c.no_more.result)
    c.in-Ok.ensures t c.no_more.ensures) (c.in-Err-retry_release.ensures.call.does c.requires))
