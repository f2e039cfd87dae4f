use Rattle.std.proofs.Common.{◌<◌, length, refl, rules, subst, sym}
use Rattle.jr_critical.specs.Levels.{ReadsAt, StandOver, in_words, objects_of}
use Rattle.luthrady.specs.declared.held.Native.{Native}
use Rattle.luthrady.proofs.KeepingRegions.{done_at_level}
use Rattle.luthrady.proofs.held.InRegion.get.Goals as goal

-- src/in_region.rt
pub get_by-requires-clause-stand : goal.get_by-requires-clause-stand
get_by-requires-clause-stand g c =
    subst (λ (n : Native). StandOver c.args.self.now.levels n.env.held) (sym c.deref_mut.ensures.value)
    c.args.self.now.stand

pub returns : goal.returns
returns g c =
    let fits : c.args.level < length (objects_of c.args.self.now.levels) = search rules in
    done_at_level (λ (n : Native). ReadsAt n.env.held c.get_by.new.native.env.held c.args.self.now.levels
    c.args.level g.E.Elem.KIND c.args.index
    (in_words g.E.Elem.word_of c.get_by.result)) _ _ _ _ _
    c.deref_mut.ensures.value refl c.get_by.ensures.region c.get_by.ensures.frames c.get_by.ensures.marker fits
    c.get_by.ensures.call
