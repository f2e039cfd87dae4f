use Rattle.std.proofs.Common.{subst, sym}
use Rattle.jr_critical.specs.Levels.{StandOver}
use Rattle.luthrady.specs.declared.held.Native.{Native}
use Rattle.luthrady.proofs.KeepingRegions.{none_left, some_left}
use Rattle.luthrady.proofs.held.InRegion.given_up.Goals as goal

-- src/held.rt
pub close_by-requires : goal.close_by-requires
close_by-requires c = subst (λ (n : Native). StandOver c.args.self.levels n.env.held)
    (sym c.deref_mut.ensures.value) c.args.self.stand

pub returns-in-Some : goal.returns-in-Some
returns-in-Some c =
    some_left c.args.self _ _ _ c.deref_mut.ensures.value c.in-Some.ensures.call c.in-Some.ensures.region
    c.close_by.ensures.frames c.close_by.ensures.marker c.in-Some.ensures.levels c.depth-left.ensures.count

pub returns-in-None : goal.returns-in-None
returns-in-None c =
    none_left c.args.self _ _ c.deref_mut.ensures.value c.in-None.ensures.call c.in-None.ensures.undisturbed
    c.close_by.ensures.frames c.in-None.ensures.outside c.close_by.ensures.marker c.in-None.ensures.levels
