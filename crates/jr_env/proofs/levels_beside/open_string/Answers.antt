use Rattle.jr_model.specs.CallPrograms.{get_string_critical}
use Rattle.jr_critical.specs.Levels.{opened_by}
use Rattle.jr_env.proofs.StandingRegions.{has_entered, stands_at, was_refused}
use Rattle.jr_env.proofs.levels_beside.open_string.Goals as goal

pub returns-clause-region : goal.returns-clause-region
returns-clause-region g c = stands_at c.args.env.now.held c.outside.new.held c.open_string.new.held
    c.outside.ensures c.open_string.ensures.frames (get_string_critical 0) c.args.string.0 c.open_string.result
    c.open_string.ensures.call

pub returns-clause-entered : goal.returns-clause-entered
returns-clause-entered g c =
    has_entered c.args.env.now _ c.outside.new.held c.outside.ensures c.open_string.ensures.frames
    (opened_by (get_string_critical 0)) c.args.string.0 c.open_string.result c.open_string.ensures.call
    c.open_string.ensures.ok

pub returns-clause-refused : goal.returns-clause-refused
returns-clause-refused g c =
    was_refused c.args.env.now _ c.outside.new.held c.outside.ensures c.open_string.ensures.frames
    (opened_by (get_string_critical 0)) c.args.string.0 c.open_string.result c.open_string.ensures.call
    c.open_string.ensures.err
