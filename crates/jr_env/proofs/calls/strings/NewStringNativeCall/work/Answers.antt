use Rattle.std.proofs.Common.{length, refl, Err, Ok, ap}
use Rattle.jr_steps.specs.Knowing.{anything}
use Rattle.jr_env.proofs.EnvCalls.{packed_is}
use Rattle.jr_env.proofs.NewArray.{works_array}
use Rattle.jr_env.proofs.Served.{forgets, refused_is}
use Rattle.jr_env.proofs.calls.strings.NewStringNativeCall.work.Goals as goal

pub returns-in_err-made-clause-call : goal.returns-in_err-made-clause-call
returns-in_err-made-clause-call g c = (
  Err _,
  refused_is c.from_residual.result c.from_residual.ensures.1,
  forgets (works_array (length c.args.self.0.now) refl anything (λ k. tt) c.in_err-made.ensures.call),
)

pub returns-clause-call : goal.returns-clause-call
returns-clause-call g c = (
  Ok _,
  ap (λ h. Ok h) (packed_is c.pack.result c.in_ok-made.made c.pack.ensures),
  forgets (works_array (length c.args.self.0.now) refl anything (λ k. tt) c.in_ok-made.ensures.call),
)
