use Rattle.std.proofs.Common.{refl}
use Rattle.jr_env.proofs.Watching.{refused, unrefused}
use Rattle.jr_env.proofs.checked.CheckedNativeCaller.make.Goals as goal

pub returns-in_default : goal.returns-in_default
returns-in_default g c = unrefused _ _ c.in_default.is c.make-answer.ensures refl refl refl

pub returns-in-Err : goal.returns-in-Err
returns-in-Err g c =
    refused _ _ c.in-Err.is c.make-answer.ensures refl refl refl c.tell_watcher.ensures.same_reference
    c.name-name.ensures c.handed-handed.ensures.words c.handed-handed.ensures.span c.tell_watcher.ensures.told
