use Rattle.std.proofs.Common.{of_calls}
use Rattle.jr_env.proofs.scope.with_local_frame_returning.Goals as goal

pub returns-in-Ok-clause-done : goal.returns-in-Ok-clause-done
returns-in-Ok-clause-done g c = (
  c.body-answer.result,
  c.in-Ok.below,
  search of_calls,
  (
    c.kept.result,
    search of_calls,
    (c.open_frame.new.self, c.body-answer.new.arg2, c.in_default.ensures, search of_calls, search of_calls),
  ),
)
