use Rattle.jr_frames.proofs.Resolution.{resolves_void}
use Rattle.jr_frames.proofs.resolving.look_up.Goals as goal

pub returns-in_default : goal.returns-in_default
returns-in_default g c =
    resolves_void g.met.S.Steps.fits c.args.steps.now c.args.frames.now.frames c.args.reference c.in_default.not-Parts

pub returns-in-Parts : goal.returns-in-Parts
returns-in-Parts g c = rw c.in-Parts.is c.look_at.ensures
