use Rattle.std.proofs.Common.{◌∙◌, ap, refl}
use Rattle.luthrady.specs.declared.held.EnvPlace.{EnvPlace}
use Rattle.luthrady.proofs.attaching.place_of.Goals as goal

-- src/attaching.rt
pub returns-in-Ok-native_of-clause-placed : goal.returns-in-Ok-native_of-clause-placed
returns-in-Ok-native_of-clause-placed c =
    let marked = ap (λ (a : EnvPlace). a.mark) (c.deref_mut.ensures.value ∙ c.in-Ok.ensures.ok) in
    let made = c.in-Ok-native_of in (made.native, (refl, marked, made.ensures.fits), made.ensures.env)
