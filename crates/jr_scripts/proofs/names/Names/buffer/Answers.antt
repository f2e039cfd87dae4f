use Rattle.std.proofs.Common.{◌≡◌, Ok, Err, Some, None, MatchResult, ap, sym, subst}
use Rattle.jr_scripts.specs.Names.{buffer_in}
use Rattle.jr_scripts.proofs.NameMaps.{stands_as}
use Rattle.jr_scripts.proofs.names.Names.buffer.Goals as goal

pub returns-in-Some : goal.returns-in-Some
returns-in-Some c =
    subst (λ s. MatchResult c.buffer.result (λ buffer. buffer_in s ≡ Ok buffer.now) (λ e. buffer_in s ≡ Err e))
    (sym (stands_as c.self.inside.bindings.entries c.args.self.now c.args.name.now c.self.view_is
    (Some c.in-Some.binding.now) (sym c.in-Some.ensures.value))) c.buffer.ensures

pub returns-in-None : goal.returns-in-None
returns-in-None c = ap buffer_in (stands_as c.self.inside.bindings.entries c.args.self.now c.args.name.now
    c.self.view_is None (sym c.in-None.ensures.value))
