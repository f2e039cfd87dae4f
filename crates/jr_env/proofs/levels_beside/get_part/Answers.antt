use Rattle.std.proofs.Common.{length, map}
use Rattle.jr_critical.specs.LevelParts.{part_read, region_get_part}
use Rattle.jr_env.proofs.StandingRegions.{stands_reached}
use Rattle.jr_env.proofs.levels_beside.get_part.Goals as goal

pub returns-clause-region : goal.returns-clause-region
returns-clause-region g c =
    stands_reached c.args.env.now.held c.get_part.new.held c.get_part.ensures.frames c.args.levels.now
    (region_get_part g.E.Elem.KIND c.args.start (length c.args.elements.now)) c.args.level
    (part_read c.get_part.result (map g.E.Elem.word_of c.get_part.new.elements)) c.get_part.ensures.call
