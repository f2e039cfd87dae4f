use Rattle.std.proofs.Common.{ap, map, refl, rules}
use Rattle.jr_env.specs.Deeds.{read_answer}
use Rattle.jr_env.proofs.Watching.{refused, unrefused}
use Rattle.jr_env.proofs.checked.CheckedNativeCaller.copy_part.Goals as goal

pub returns-in_default-clause-call : goal.returns-in_default-clause-call
returns-in_default-clause-call g c = unrefused _ _
    (ap (λ r. read_answer r (map g.E.Elem.word_of c.copy_part-answer.new.elements)) c.in_default.is)
    c.copy_part-answer.ensures.call refl refl refl

pub returns-in-Err-clause-call : goal.returns-in-Err-clause-call
returns-in-Err-clause-call g c =
    refused _ _ (search rules) c.copy_part-answer.ensures.call refl refl refl c.tell_watcher.ensures.same_reference
    (search rules)
    refl (λ a k n. refl) c.tell_watcher.ensures.told
