use Rattle.jr_model.specs.CallPrograms.{get_array_critical}
use Rattle.jr_env.proofs.StandingRegions.{stands_over}
use Rattle.jr_env.proofs.levels_beside.nest_array.Goals as goal

pub returns-clause-region : goal.returns-clause-region
returns-clause-region g c = stands_over c.args.env.now.held c.nest_array.new.held c.nest_array.ensures.frames
    c.args.levels.now get_array_critical c.args.array.0 c.nest_array.new.self c.nest_array.result
    c.nest_array.ensures.call
