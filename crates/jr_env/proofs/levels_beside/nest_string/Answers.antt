use Rattle.jr_model.specs.CallPrograms.{get_string_critical}
use Rattle.jr_env.proofs.StandingRegions.{stands_over}
use Rattle.jr_env.proofs.levels_beside.nest_string.Goals as goal

pub returns-clause-region : goal.returns-clause-region
returns-clause-region g c = stands_over c.args.env.now.held c.nest_string.new.held c.nest_string.ensures.frames
    c.args.levels.now get_string_critical c.args.string.0 c.nest_string.new.self c.nest_string.result
    c.nest_string.ensures.call
