use Rattle.std.proofs.Common.{refl, sym, subst}
use Rattle.jr_env.specs.Calling.{CanCall}
use Rattle.jr_env.proofs.Meetings.{own_looked}
use Rattle.jr_env.proofs.calls.meeting.Env+RoomSteps+LAST.meet.Goals as goal

pub invariant_of-held : goal.invariant_of-held
invariant_of-held g c = record { own = own_looked c.meet.ensures.step (refl, tt) c.args.self.now.held.own }

pub invariant_of-self : goal.invariant_of-self
invariant_of-self g c = record { ready = subst CanCall (sym c.meet.ensures.step.stands_is) c.args.self.now.ready }
