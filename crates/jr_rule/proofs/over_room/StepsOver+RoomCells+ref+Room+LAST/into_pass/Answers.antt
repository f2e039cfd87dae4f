use Rattle.jr_rule.proofs.PassOver.{held_of_standing}
use Rattle.jr_rule.proofs.over_room.StepsOver+RoomCells+ref+Room+LAST.into_pass.Goals as goal

pub invariant_of-result : goal.invariant_of-result
invariant_of-result g c = let s = c.args.self in record { held = held_of_standing s.at s.stands }
