use Rattle.std.proofs.Common.{◌≡◌, refl, rules, subst}
use Rattle.std.specs.Arc.{arc_value}
use Rattle.jr_rule.specs.Sites.{IsSeatedIn}
use Rattle.jr_rule.proofs.LookTaken.{look_stands, look_took, owner_over}
use Rattle.jr_rule.proofs.over_owned.StepsOver+OwnedCells+LAST+unit.meet.Goals as goal

pub invariant_of-self : goal.invariant_of-self
invariant_of-self g c =
    let s = c.args.self.now in
    let is : c.deref.result.now ≡ arc_value s.cells.room = search rules in
    record {
      at = subst (IsSeatedIn c.meet-seat.new.self) is c.meet-seat.ensures.there;
      stands = look_stands (owner_over s) c.meet-seat.new.self c.meet-seat.ensures.same.1 c.meet-seat.ensures.looked
          refl refl s.stands;
    }

pub returns-clause-step : goal.returns-clause-step
returns-clause-step g c =
    let took = look_took (owner_over c.args.self.now) c.meet-seat.new.self c.meet-seat.ensures.same.1
    c.meet-seat.ensures.looked refl refl in
    record { stands_is = took.stands_is; hint_is = took.hint_is; goes = took.goes }
