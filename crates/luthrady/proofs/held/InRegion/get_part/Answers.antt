use Rattle.std.proofs.Common.{◌<◌, length, map, refl, rules, subst, sym}
use Rattle.jr_critical.specs.LevelParts.{ReadsPartAt, part_read}
use Rattle.jr_critical.specs.Levels.{StandOver, objects_of}
use Rattle.luthrady.specs.declared.held.Native.{Native}
use Rattle.luthrady.proofs.KeepingRegions.{done_at_level}
use Rattle.luthrady.proofs.held.InRegion.get_part.Goals as goal

-- src/in_region.rt
pub get_part_by-requires-clause-stand : goal.get_part_by-requires-clause-stand
get_part_by-requires-clause-stand g c =
    subst (λ (n : Native). StandOver c.args.self.now.levels n.env.held) (sym c.deref_mut.ensures.value)
    c.args.self.now.stand

pub returns-clause-call : goal.returns-clause-call
returns-clause-call g c =
    let fits : c.args.level < length (objects_of c.args.self.now.levels) = search rules in
    done_at_level (λ (n : Native). ReadsPartAt n.env.held c.get_part_by.new.native.env.held c.args.self.now.levels
    c.args.level g.E.Elem.KIND c.args.start
    (length c.args.elements.now) (part_read c.get_part_by.result
    (map g.E.Elem.word_of c.get_part_by.new.elements))) _ _ _ _ _
    c.deref_mut.ensures.value refl c.get_part_by.ensures.region c.get_part_by.ensures.frames
    c.get_part_by.ensures.marker fits c.get_part_by.ensures.call
