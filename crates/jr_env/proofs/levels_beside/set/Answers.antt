use Rattle.jr_model.specs.CallPrograms.{region_set}
use Rattle.jr_env.proofs.StandingRegions.{stands_reached}
use Rattle.jr_env.proofs.levels_beside.set.Goals as goal

pub returns-clause-region : goal.returns-clause-region
returns-clause-region g c = stands_reached c.args.env.now.held c.set.new.held c.set.ensures.frames c.args.levels.now
    (region_set g.E.Elem.KIND c.args.index (g.E.Elem.word_of c.args.value)) c.args.level c.set.result c.set.ensures.call
