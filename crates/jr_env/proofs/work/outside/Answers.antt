use Rattle.std.proofs.Common.{sym, ◌∙◌}
use Rattle.jr_env.proofs.EndedStays.{ends_stay}
use Rattle.jr_env.proofs.work.outside.Goals as goal

pub invariant_of-held : goal.invariant_of-held
invariant_of-held g c = record {
  own = (ends_stay c.requires (sym c.role.ensures ∙ c.in-Within.is) c.args.held.now.own c.go_out.ensures).ready.own;
}
