use Rattle.std.proofs.Common.{refl}
use Rattle.jr_rule.specs.Rooms.{holder_over}
use Rattle.jr_rule.proofs.LookTaken.{look_stands, look_took, thread_next}
use Rattle.jr_rule.proofs.steps_in.StepsOverRoomCellsInRoomStepsIn.learn_pinned.Goals as goal

pub invariant_of-self : goal.invariant_of-self
invariant_of-self g c =
    let s = c.args.self.now in
    record {
      at = thread_next s.at c.learn_again-note.ensures.there c.learn_again-note.ensures.same;
      stands = look_stands (holder_over s) c.learn_again-note.new.self c.learn_again-note.ensures.same.1
          c.learn_again-note.ensures.looked refl refl s.stands;
    }

pub returns-clause-step : goal.returns-clause-step
returns-clause-step g c done =
    let took = look_took (holder_over c.args.self.now) c.learn_again-note.new.self c.learn_again-note.ensures.same.1
    c.learn_again-note.ensures.looked refl refl in
    record { stands_is = took.stands_is; hint_is = took.hint_is; goes = took.goes }
