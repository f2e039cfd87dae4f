use Rattle.std.proofs.Common.{ap}
use Rattle.jr_model.specs.Frames.{Frames}
use Rattle.jr_frames.proofs.Dropping.{standing_place, drops_one}
use Rattle.jr_frames.proofs.free.drop_local.Goals as goal

pub put_local-requires-clause-place : goal.put_local-requires-clause-place
put_local-requires-clause-place g c = standing_place g.met.S.Steps.fits c.requires.ready c.args.handle c.requires.stands

pub put_local-requires-clause-object : goal.put_local-requires-clause-object
put_local-requires-clause-object g c = g.met.S.Steps.some_known c.args.steps.now

pub returns-clause-call : goal.returns-clause-call
returns-clause-call g c =
    drops_one g.met.S.Steps.fits c.args.handle c.requires.ready.role_is c.put_local.ensures c.delete.ensures.only
    (ap (λ (f : Frames). f.given) c.delete.ensures.deleted)
