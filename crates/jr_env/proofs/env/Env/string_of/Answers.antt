use Rattle.std.proofs.Common.{rules}
use Rattle.jr_env.specs.Requests.{for_get_string_chars}
use Rattle.jr_env.proofs.Served.{does_kept}
use Rattle.jr_env.proofs.env.Env.string_of.Goals as goal

pub returns-in_err-units : goal.returns-in_err-units
returns-in_err-units g c = (
  _,
  does_kept (λ units. units.items) (for_get_string_chars c.args.string.0) c.get_string_chars.ensures,
  search rules,
)

pub returns : goal.returns
returns g c = (
  _,
  does_kept (λ units. units.items) (for_get_string_chars c.args.string.0) c.get_string_chars.ensures,
  search rules,
)
