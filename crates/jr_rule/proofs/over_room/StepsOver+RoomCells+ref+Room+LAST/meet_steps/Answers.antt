use Rattle.std.proofs.Common.{ap, refl}
use Rattle.jr_rule.specs.Rooms.{holder_over}
use Rattle.jr_rule.specs.Rule.{stepping_pass}
use Rattle.jr_rule.proofs.LookTaken.{look_stands, look_took}
use Rattle.jr_rule.proofs.PassOver.{standing_same}
use Rattle.jr_rule.proofs.over_room.StepsOver+RoomCells+ref+Room+LAST.meet_steps.Goals as goal

pub invariant_of-self : goal.invariant_of-self
invariant_of-self g c =
    let s = c.args.self.now in
    record {
      at = c.meet_cells.ensures.there;
      stands = look_stands (holder_over s) c.meet_cells.new.self c.meet_cells.ensures.same.1 c.meet_cells.ensures.looked
          refl refl s.stands;
    }

pub returns-clause-step : goal.returns-clause-step
returns-clause-step g c = look_took (holder_over c.args.self.now) c.meet_cells.new.self c.meet_cells.ensures.same.1
    c.meet_cells.ensures.looked refl refl

pub invariant_of-other-clause-stands : goal.invariant_of-other-clause-stands
invariant_of-other-clause-stands g c =
    standing_same c.args.other.now.cells.seat.me c.meet_cells.new.other.seat.me c.meet_cells.ensures.other.1
    (ap stepping_pass c.meet_cells.ensures.other.2) c.args.other.now.stands
