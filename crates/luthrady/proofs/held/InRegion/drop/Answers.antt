use Rattle.std.proofs.Common.{subst, sym}
use Rattle.jr_critical.specs.Levels.{StandOver}
use Rattle.luthrady.specs.declared.held.Native.{Native}
use Rattle.luthrady.proofs.held.InRegion.drop.Goals as goal

-- src/held.rt
pub end_by-requires : goal.end_by-requires
end_by-requires c = subst (λ (n : Native). StandOver c.args.self.levels n.env.held) (sym c.deref_mut.ensures.value)
    c.args.self.stand
