use Rattle.std.proofs.Common.{◌<◌, length, map, refl, rules, subst, sym}
use Rattle.jr_critical.specs.LevelParts.{WritesPartAt}
use Rattle.jr_critical.specs.Levels.{StandOver, objects_of}
use Rattle.luthrady.specs.declared.held.Native.{Native}
use Rattle.luthrady.proofs.KeepingRegions.{done_at_level}
use Rattle.luthrady.proofs.held.InRegion.set_part.Goals as goal

-- src/in_region.rt
pub set_part_by-requires-clause-stand : goal.set_part_by-requires-clause-stand
set_part_by-requires-clause-stand g c =
    subst (λ (n : Native). StandOver c.args.self.now.levels n.env.held) (sym c.deref_mut.ensures.value)
    c.args.self.now.stand

pub returns : goal.returns
returns g c =
    let fits : c.args.level < length (objects_of c.args.self.now.levels) = search rules in
    done_at_level (λ (n : Native). WritesPartAt n.env.held c.set_part_by.new.native.env.held c.args.self.now.levels
    c.args.level g.E.Elem.KIND c.args.start
    (map g.E.Elem.word_of c.args.elements.now) c.set_part_by.result) _ _ _ _ _
    c.deref_mut.ensures.value refl c.set_part_by.ensures.region c.set_part_by.ensures.frames
    c.set_part_by.ensures.marker fits c.set_part_by.ensures.call
