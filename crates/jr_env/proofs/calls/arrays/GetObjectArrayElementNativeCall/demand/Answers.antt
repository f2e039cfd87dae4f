use Rattle.std.proofs.Common.{refl}
use Rattle.jr_word.specs.declared.kind.Kind.TheVariants.{Plain}
use Rattle.jr_env.proofs.calls.arrays.GetObjectArrayElementNativeCall.demand.Goals as goal

pub returns : goal.returns
returns g c = λ a. (Plain, 0, refl)
