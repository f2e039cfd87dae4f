use Rattle.std.proofs.Common.{inr, rules}
use Rattle.jr_env.proofs.env.Env.new_string_of.Goals as goal

pub returns : goal.returns
returns g c = inr (c.deref.result.now, search rules, c.new_string.ensures)
