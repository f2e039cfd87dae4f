use Rattle.std.proofs.Common.{map}
use Rattle.jr_critical.specs.LevelParts.{region_set_part}
use Rattle.jr_env.proofs.StandingRegions.{stands_reached}
use Rattle.jr_env.proofs.levels_beside.set_part.Goals as goal

pub returns-clause-region : goal.returns-clause-region
returns-clause-region g c =
    stands_reached c.args.env.now.held c.set_part.new.held c.set_part.ensures.frames c.args.levels.now
    (region_set_part g.E.Elem.KIND c.args.start (map g.E.Elem.word_of c.args.elements.now)) c.args.level
    c.set_part.result c.set_part.ensures.call
