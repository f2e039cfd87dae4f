use Rattle.jr_critical.specs.Levels.{in_words}
use Rattle.jr_model.specs.CallPrograms.{region_get}
use Rattle.jr_env.proofs.StandingRegions.{stands_reached}
use Rattle.jr_env.proofs.levels_beside.get.Goals as goal

pub returns-clause-region : goal.returns-clause-region
returns-clause-region g c = stands_reached c.args.env.now.held c.get.new.held c.get.ensures.frames c.args.levels.now
    (region_get g.E.Elem.KIND c.args.index) c.args.level (in_words g.E.Elem.word_of c.get.result) c.get.ensures.call
