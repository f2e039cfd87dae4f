use Rattle.std.proofs.Common.{of_calls, refl, sym, subst, length, Err}
use Rattle.std.specs.List.{refill}
use Rattle.jr_env.specs.Retried.{WasReleased}
use Rattle.jr_env.proofs.copying.with_array_elements.Goals as goal

pub returns-in-Ok-retry_release-clause-done : goal.returns-in-Ok-retry_release-clause-done
returns-in-Ok-retry_release-clause-done g c = (
  refill (length c.in-Ok.elements) c.in-Ok.elements c.body-answer.new.arg2,
  c.in-Ok-retry_release.left,
  (
    c.retry.new.self,
    c.in-Ok.elements,
    c.body-answer.new.arg2,
    c.in-Ok.ensures,
    search of_calls,
    refl,
    c.in-Ok-retry_release.ensures.call,
  ),
)

pub returns-in-Err-retry_release-clause-refused : goal.returns-in-Err-retry_release-clause-refused
returns-in-Err-retry_release-clause-refused g c =
    let same = c.in-Err-retry_release.ensures.err in (
      c.retry.new.self,
      c.in-Ok.elements,
      c.body-answer.new.arg2,
      c.in-Ok.ensures,
      search of_calls,
      same,
      subst (λ xs. WasReleased c.args.patience g.E.Elem.KIND g.E.Elem.word_of c.args.array.0 c.args.mode xs
          c.retry.new.self (Err (c.in-Err-retry_release.elements, c.in-Err-retry_release.fault))
          c.retry_release.new.self) (sym same) c.in-Err-retry_release.ensures.call,
    )
