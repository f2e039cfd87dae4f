use Rattle.std.proofs.Common.{◌≡◌, refl, rules, subst}
use Rattle.std.specs.Arc.{arc_value}
use Rattle.jr_rule.specs.Sites.{IsSeatedIn}
use Rattle.jr_rule.proofs.LookTaken.{look_stands, look_took, owner_over, owned_next}
use Rattle.jr_rule.proofs.of_site.StepsOverOwnedCellsOfSiteStepsIn.learn_pinned.Goals as goal

pub invariant_of-self : goal.invariant_of-self
invariant_of-self g c =
    let s = c.args.self.now in
    let is : c.deref.result.now ≡ arc_value s.cells.room = search rules in
    record {
      at = owned_next s.at (subst (IsSeatedIn c.learn_again-note.new.self) is c.learn_again-note.ensures.there)
          c.learn_again-note.ensures.same.1;
      stands = look_stands (owner_over s) c.learn_again-note.new.self c.learn_again-note.ensures.same.1
          c.learn_again-note.ensures.looked refl refl s.stands;
    }

pub returns-clause-step : goal.returns-clause-step
returns-clause-step g c done =
    let took = look_took (owner_over c.args.self.now) c.learn_again-note.new.self c.learn_again-note.ensures.same.1
    c.learn_again-note.ensures.looked refl refl in
    record { stands_is = took.stands_is; hint_is = took.hint_is; goes = took.goes }
