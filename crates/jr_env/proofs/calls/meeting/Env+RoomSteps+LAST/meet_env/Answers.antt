use Rattle.std.proofs.Common.{refl, sym, subst}
use Rattle.jr_env.specs.Calling.{CanCall}
use Rattle.jr_env.proofs.Meetings.{own_as_before, own_looked}
use Rattle.jr_env.proofs.calls.meeting.Env+RoomSteps+LAST.meet_env.Goals as goal

pub invariant_of-held : goal.invariant_of-held
invariant_of-held g c = record { own = own_looked c.meet_steps.ensures.step (refl, tt) c.args.self.now.held.own }

pub invariant_of-theirs : goal.invariant_of-theirs
invariant_of-theirs g c = record { own = own_as_before c.meet_steps.ensures.other c.args.other.now.held.own }

pub invariant_of-self : goal.invariant_of-self
invariant_of-self g c = record { ready = subst CanCall (sym c.meet_steps.ensures.step.stands_is) c.args.self.now.ready }
