use Rattle.std.proofs.Common.{◌≡◌, ap, refl, rules, subst}
use Rattle.std.specs.Arc.{arc_value}
use Rattle.jr_rule.specs.Rule.{stepping_pass}
use Rattle.jr_rule.specs.Sites.{IsSeatedIn}
use Rattle.jr_rule.proofs.LookTaken.{look_stands, look_took, owner_over}
use Rattle.jr_rule.proofs.PassOver.{standing_same}
use Rattle.jr_rule.proofs.over_owned.StepsOver+OwnedCells+LAST+unit.meet_steps.Goals as goal

pub invariant_of-self : goal.invariant_of-self
invariant_of-self g c =
    let s = c.args.self.now in
    let is : c.deref.result.now ≡ arc_value s.cells.room = search rules in
    record {
      at = subst (IsSeatedIn c.meet_cells.new.self) is c.meet_cells.ensures.there;
      stands = look_stands (owner_over s) c.meet_cells.new.self c.meet_cells.ensures.same.1 c.meet_cells.ensures.looked
          refl refl s.stands;
    }

pub returns-clause-step : goal.returns-clause-step
returns-clause-step g c =
    let took = look_took (owner_over c.args.self.now) c.meet_cells.new.self c.meet_cells.ensures.same.1
    c.meet_cells.ensures.looked refl refl in
    record { stands_is = took.stands_is; hint_is = took.hint_is; goes = took.goes }

pub invariant_of-other-clause-stands : goal.invariant_of-other-clause-stands
invariant_of-other-clause-stands g c =
    standing_same c.args.other.now.cells.cells.seat.me c.meet_cells.new.other.seat.me c.meet_cells.ensures.other.1
    (ap stepping_pass c.meet_cells.ensures.other.2) c.args.other.now.stands
