use Rattle.std.proofs.Common.{refl}
use Rattle.jr_rule.specs.Rooms.{holder_over}
use Rattle.jr_rule.proofs.LookTaken.{look_stands, look_took, look_went}
use Rattle.jr_rule.proofs.over_room.StepsOver+RoomCells+ref+Room+LAST.meet.Goals as goal

pub invariant_of-self : goal.invariant_of-self
invariant_of-self g c =
    let s = c.args.self.now in
    record {
      at = c.meet-seat.ensures.there;
      stands = look_stands (holder_over s) c.meet-seat.new.self c.meet-seat.ensures.same.1 c.meet-seat.ensures.looked
          refl refl s.stands;
    }

pub returns-clause-step : goal.returns-clause-step
returns-clause-step g c = look_took (holder_over c.args.self.now) c.meet-seat.new.self c.meet-seat.ensures.same.1
    c.meet-seat.ensures.looked refl refl

pub returns-clause-seen : goal.returns-clause-seen
returns-clause-seen g c = let s = c.args.self.now in look_went (holder_over s) c.meet-seat.new.self
    c.meet-seat.ensures.same.1 c.meet-seat.ensures.looked refl refl s.stands
