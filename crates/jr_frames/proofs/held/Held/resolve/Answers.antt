use Rattle.jr_frames.specs.Reading.{word_of}
use Rattle.jr_frames.proofs.StillReady.{own_resolved}
use Rattle.jr_frames.proofs.held.Held.resolve.Goals as goal

pub invariant_of-self : goal.invariant_of-self
invariant_of-self g c = record { own = own_resolved c.args.self.now.own c.resolve.ensures }

pub returns-clause-resolved : goal.returns-clause-resolved
returns-clause-resolved g c = (word_of c.of-reference.result, c.of-reference.ensures.reads, c.resolve.ensures)
