use Rattle.std.proofs.Common.{subst}
use Rattle.jr_model.specs.Checks.{Malformed, Nothing, Parts}
use Rattle.jr_frames.specs.Reading.{word_of, IsReadAs}
use Rattle.jr_frames.proofs.DeletingLocal.{local_null, local_malformed}
use Rattle.jr_env.proofs.Served.{forgets}
use Rattle.jr_env.proofs.calls.references.DeleteLocalRefNativeCall.work.Goals as goal

pub returns-in-Null-clause-call : goal.returns-in-Null-clause-call
returns-in-Null-clause-call g c =
    let s = (g.S.Steps.facts c.args.steps.now).stands in (
      Nothing,
      subst (λ r. IsReadAs c.args.self.0.0 (word_of r)) c.in-Null.is c.of-target.ensures.reads,
      forgets (local_null g.met.S.Steps.fits c.args.steps.now c.args.frames.now.frames s.config s.thread),
    )

pub returns-in-Malformed-clause-call : goal.returns-in-Malformed-clause-call
returns-in-Malformed-clause-call g c =
    let s = (g.S.Steps.facts c.args.steps.now).stands in (
      Malformed,
      subst (λ r. IsReadAs c.args.self.0.0 (word_of r)) c.in-Malformed.is c.of-target.ensures.reads,
      forgets (local_malformed g.met.S.Steps.fits c.args.steps.now c.args.frames.now.frames s.config s.thread),
    )

pub returns-in-Parts-clause-call : goal.returns-in-Parts-clause-call
returns-in-Parts-clause-call g c = (
  Parts _,
  subst (λ r. IsReadAs c.args.self.0.0 (word_of r)) c.in-Parts.is c.of-target.ensures.reads,
  forgets c.delete_local.ensures.call,
)
