use Rattle.jr_model.specs.CallPrograms.{get_array_critical}
use Rattle.jr_critical.specs.Levels.{opened_by}
use Rattle.jr_env.proofs.StandingRegions.{has_entered, stands_at, was_refused}
use Rattle.jr_env.proofs.levels_beside.open_array.Goals as goal

pub returns-clause-region : goal.returns-clause-region
returns-clause-region g c = stands_at c.args.env.now.held c.outside.new.held c.open_array.new.held
    c.outside.ensures c.open_array.ensures.frames (get_array_critical 0) c.args.array.0 c.open_array.result
    c.open_array.ensures.call

pub returns-clause-entered : goal.returns-clause-entered
returns-clause-entered g c =
    has_entered c.args.env.now _ c.outside.new.held c.outside.ensures c.open_array.ensures.frames
    (opened_by (get_array_critical 0)) c.args.array.0 c.open_array.result c.open_array.ensures.call
    c.open_array.ensures.ok

pub returns-clause-refused : goal.returns-clause-refused
returns-clause-refused g c =
    was_refused c.args.env.now _ c.outside.new.held c.outside.ensures c.open_array.ensures.frames
    (opened_by (get_array_critical 0)) c.args.array.0 c.open_array.result c.open_array.ensures.call
    c.open_array.ensures.err
