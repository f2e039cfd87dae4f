use Rattle.jr_model.specs.CallPrograms.{get_array_critical}
use Rattle.jr_critical.specs.Levels.{opened_within}
use Rattle.jr_env.proofs.StayLevels.{opened_in, refused_in}
use Rattle.jr_env.proofs.stay.Stay.get_array_critical.Goals as goal

pub returns-in-Ok-clause-opened : goal.returns-in-Ok-clause-opened
returns-in-Ok-clause-opened g c =
    opened_in c.args.self c.open_array_within.new.self c.in-Ok.ensures.frames c.args.array.0
    (opened_within (get_array_critical 0)) c.in-Ok.levels c.in-Ok.ensures.call c.in-Ok.ensures.stand
    c.in-Ok.ensures.with_level c.over.result c.over.ensures.env c.over.ensures.levels

pub returns-in-Err-clause-refused : goal.returns-in-Err-clause-refused
returns-in-Err-clause-refused g c = refused_in c.args.self c.open_array_within.new.self c.in-Err.ensures.frames
    c.args.array.0 (opened_within (get_array_critical 0)) c.in-Err.fault c.in-Err.ensures.call c.in-Err.ensures.on
    c.over-in-Err.result c.over-in-Err.ensures.env
