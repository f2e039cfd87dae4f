use Rattle.jr_model.specs.CallPrograms.{get_string_critical}
use Rattle.jr_env.proofs.StayLevels.{level_opened, level_refused}
use Rattle.jr_env.proofs.env.Env.open_string_within.Goals as goal

pub returns-clause-with_level : goal.returns-clause-with_level
returns-clause-with_level g c = level_opened c.args.self.now.held c.open_string_within.new.held
    c.open_string_within.ensures.frames c.args.string.0 (get_string_critical 0) c.open_string_within.result
    c.open_string_within.ensures.call

pub returns-clause-on : goal.returns-clause-on
returns-clause-on g c = level_refused c.args.self.now.held c.open_string_within.new.held
    c.open_string_within.ensures.frames c.args.string.0 (get_string_critical 0) c.open_string_within.result
    c.open_string_within.ensures.call
