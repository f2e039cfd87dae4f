use Rattle.std.proofs.Common.{rules}
use Rattle.jr_rule.proofs.PassOver.{standing_of_held}
use Rattle.jr_rule.proofs.over_room.StepsOver+RoomCells+ref+Room+LAST.new.Goals as goal

pub invariant_of-result : goal.invariant_of-result
invariant_of-result g c = record { at = search rules; stands = standing_of_held c.args.pass.held }
