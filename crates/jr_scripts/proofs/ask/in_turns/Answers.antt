use Rattle.jr_scripts.proofs.Retries.{tried_in_turns, tried_never}
use Rattle.jr_scripts.proofs.ask.in_turns.Goals as goal

pub returns-in_err-patience : goal.returns-in_err-patience
returns-in_err-patience g c = (
  c.args.body,
  tried_never c.in_err-patience.field-0.0 c.from_residual.result
      c.from_residual.ensures.1 c.in_err-patience.ensures,
)

pub returns : goal.returns
returns g c = (
  c.with_patience.ensures.0,
  tried_in_turns c.in_ok-patience.patience _ _ c.in_ok-patience.ensures
      c.with_patience.ensures.1 c.map_err.ensures.cases,
)
