use Rattle.jr_critical.proofs.Closing.{closes_all}
use Rattle.jr_frames.proofs.StillReady.{ready_left}
use Rattle.jr_critical.proofs.levels.Levels.close_all.Goals as goal

pub invariant_of-held : goal.invariant_of-held
invariant_of-held g c = record { own = (ready_left c.requires.ready c.leave.ensures).own }

pub returns-clause-call : goal.returns-clause-call
returns-clause-call g c = closes_all c.leave.ensures
