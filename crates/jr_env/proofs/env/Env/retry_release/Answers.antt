use Rattle.std.proofs.Common.{Err, Ok, map, rules, sym, subst, ap, ◌∙◌, ◌≢◌}
use Rattle.jr_model.specs.declared.frames.Mode.TheVariants.{Abort}
use Rattle.jr_env.specs.Deeds.{DoesOutside, release_answer, release_array_elements}
use Rattle.jr_env.specs.Tries.{made_again}
use Rattle.jr_env.proofs.ReleasedElements.{aborts_again, kept_words, releases_again}
use Rattle.jr_env.proofs.env.Env.retry_release.Goals as goal

pub returns-in-Ok-clause-call : goal.returns-in-Ok-clause-call
returns-in-Ok-clause-call g c =
    let words = map g.E.Elem.word_of in
    let writes : c.args.mode ≢ Abort = search rules in
    let old = c.args.self.now.held in
    let new = c.retry.new.self.held in
    subst (λ z. DoesOutside g.S.Steps.facts old.steps new.steps old.frames.frames new.frames.frames
    (made_again c.args.patience.waits_for_room c.args.patience.more
    (release_array_elements g.E.Elem.KIND c.args.array.0 (words c.args.elements) c.args.mode)) z)
    (kept_words words c.args.elements c.args.mode ∙ ap (λ k. release_answer words (Ok k)) (sym c.kept.ensures))
    (releases_again g.E.Elem.KIND c.args.array.0 (words c.args.elements) c.args.mode writes (Ok _) _ _ c.in-Ok.ensures)

pub returns-in-Err-clause-call : goal.returns-in-Err-clause-call
returns-in-Err-clause-call g c =
    let writes : c.args.mode ≢ Abort = search rules in
    releases_again g.E.Elem.KIND c.args.array.0 (map g.E.Elem.word_of c.args.elements) c.args.mode writes
    (Err c.in-Err.fault) _ _ c.in-Err.ensures

pub returns-then-not-copies_back-clause-call : goal.returns-then-not-copies_back-clause-call
returns-then-not-copies_back-clause-call g c =
    aborts_again c.args.patience.waits_for_room c.args.patience.more g.E.Elem.KIND c.args.array.0
    (map g.E.Elem.word_of c.args.elements) c.outside.ensures c.args.mode (λ writes.
    let copies = c.copies_back.ensures.1 writes in let not = c.if-not-copies_back.true in cc)
