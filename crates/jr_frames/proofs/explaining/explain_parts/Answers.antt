use Rattle.jr_frames.proofs.Resolution.ToldWords.{explains_foreign, explains_outside}
use Rattle.jr_frames.proofs.explaining.explain_parts.Goals as goal

pub returns-then-lies_outside : goal.returns-then-lies_outside
returns-then-lies_outside g c =
    explains_outside g.met.S.Steps.fits c.args.steps.now c.args.frames.now.frames c.args.handle (cc)

pub returns-then-belongs_elsewhere : goal.returns-then-belongs_elsewhere
returns-then-belongs_elsewhere g c =
    explains_foreign g.met.S.Steps.fits c.args.steps.now c.args.frames.now.frames c.args.handle (cc) (cc)
