use Rattle.std.proofs.Common.{refl}
use Rattle.jr_env.proofs.Warning.{tells_locals}
use Rattle.jr_env.proofs.warned_env.WarnedLocalFrames.close_frame.Goals as goal

pub returns : goal.returns
returns g c = tells_locals _
    (record { same_reference = refl; warner = refl; reserve = refl; acts = c.close_frame-answer.ensures })
    refl c.locals_left-before.ensures c.warn_of_locals.ensures
