use Rattle.jr_env.proofs.Warning.{tells_locals}
use Rattle.jr_env.proofs.warned.WarnedNativeCaller.make.Goals as goal

pub returns : goal.returns
returns g c = tells_locals _ c.make_telling-answer.ensures c.name-name.ensures c.locals_left-before.ensures
    c.warn_of_locals.ensures
