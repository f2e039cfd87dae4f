use Rattle.std.proofs.Common.{◌<◌, length, refl, rules, subst, sym}
use Rattle.jr_critical.specs.Levels.{StandOver, WritesAt, objects_of}
use Rattle.luthrady.specs.declared.held.Native.{Native}
use Rattle.luthrady.proofs.KeepingRegions.{done_at_level}
use Rattle.luthrady.proofs.held.InRegion.set.Goals as goal

-- src/in_region.rt
pub set_by-requires-clause-stand : goal.set_by-requires-clause-stand
set_by-requires-clause-stand g c =
    subst (λ (n : Native). StandOver c.args.self.now.levels n.env.held) (sym c.deref_mut.ensures.value)
    c.args.self.now.stand

pub returns : goal.returns
returns g c =
    let fits : c.args.level < length (objects_of c.args.self.now.levels) = search rules in
    done_at_level (λ (n : Native). WritesAt n.env.held c.set_by.new.native.env.held c.args.self.now.levels
    c.args.level g.E.Elem.KIND c.args.index (g.E.Elem.word_of c.args.value)
    c.set_by.result) _ _ _ _ _
    c.deref_mut.ensures.value refl c.set_by.ensures.region c.set_by.ensures.frames c.set_by.ensures.marker fits
    c.set_by.ensures.call
