-- Each thread did its story.
use Rattle.std.proofs.Common.{◌≢◌, rules}
use Rattle.first_room.proofs.Played.{first_told, other_told}
use Rattle.first_room.proofs.HourNativeCode.run.Goals as goal

pub visit-requires : goal.visit-requires
visit-requires g c = record { outside = c.requires.steps.outside; sizes = c.requires.steps.config }

pub returns-in-0 : goal.returns-in-0
returns-in-0 g c = record { deed = first_told c.args.thread c.share.result c.in-0.is c.share.ensures }

pub returns-in_default : goal.returns-in_default
returns-in_default g c =
    let other : c.args.thread ≢ 0 = search rules in
    record { deed = other_told c.args.thread c.visit.result other c.visit.ensures }
