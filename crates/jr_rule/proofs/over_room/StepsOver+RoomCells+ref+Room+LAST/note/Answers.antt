use Rattle.std.proofs.Common.{ap}
use Rattle.jr_rule.specs.Rule.{stepping_pass}
use Rattle.jr_rule.proofs.PassOver.{standing_same}
use Rattle.jr_rule.proofs.over_room.StepsOver+RoomCells+ref+Room+LAST.note.Goals as goal

pub invariant_of-self-clause-stands : goal.invariant_of-self-clause-stands
invariant_of-self-clause-stands g c =
    standing_same c.args.self.now.cells.seat.me c.note-seat.new.self.seat.me c.note-seat.ensures.same.1
    (ap stepping_pass c.note-seat.ensures.same.2) c.args.self.now.stands
