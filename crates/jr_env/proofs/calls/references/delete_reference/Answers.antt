use Rattle.std.proofs.Common.{subst}
use Rattle.jr_model.specs.Checks.{Malformed, Nothing, Parts}
use Rattle.jr_frames.specs.Reading.{word_of, IsReadAs}
use Rattle.jr_env.proofs.Removing.{removes_null, removes_malformed}
use Rattle.jr_env.proofs.Served.{forgets}
use Rattle.jr_env.proofs.calls.references.delete_reference.Goals as goal

pub returns-in-Null : goal.returns-in-Null
returns-in-Null g c = λ f. (
  Nothing,
  subst (λ r. IsReadAs c.args.handle.0 (word_of r)) c.in-Null.is c.of-target.ensures.reads,
  forgets (removes_null g.met.S.Steps.fits c.args.steps.now f (g.S.Steps.facts c.args.steps.now).stands.config
      c.args.kind),
)

pub returns-in-Malformed : goal.returns-in-Malformed
returns-in-Malformed g c = λ f. (
  Malformed,
  subst (λ r. IsReadAs c.args.handle.0 (word_of r)) c.in-Malformed.is c.of-target.ensures.reads,
  forgets (removes_malformed g.met.S.Steps.fits c.args.steps.now f
      (g.S.Steps.facts c.args.steps.now).stands.config c.args.kind),
)

pub returns-in-Parts : goal.returns-in-Parts
returns-in-Parts g c = λ f. (
  Parts _,
  subst (λ r. IsReadAs c.args.handle.0 (word_of r)) c.in-Parts.is c.of-target.ensures.reads,
  forgets (c.delete_parts.ensures f),
)
