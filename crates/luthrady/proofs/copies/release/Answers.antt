use Rattle.std.proofs.Common.{sym, ap, ◌∙◌, Err, refl}
use Rattle.jr_word.specs.declared.fault.Fault.{Fault}
use Rattle.luthrady.proofs.DoingBy.{by_no_native, by_ready_native}
use Rattle.luthrady.proofs.ThroughPointers.{absent}
use Rattle.luthrady.proofs.copies.release.Goals as goal

-- src/copies.rt
pub returns-in-Critical : goal.returns-in-Critical
returns-in-Critical g c =
    let is = sym c.is_env.ensures.value ∙ c.if-not-is_env.false in
    by_no_native _ _ _ _ _ _ is c.is_env.ensures.unchanged c.env_of.ensures.value c.in-Critical.is refl
    (ap (λ (e : Fault). Err e) (absent _ _ _ _ is c.is_env.ensures.unchanged c.env_of.ensures.value c.in-Critical.is))

pub returns-in-Detached : goal.returns-in-Detached
returns-in-Detached g c =
    let is = sym c.is_env.ensures.value ∙ c.if-not-is_env.false in
    by_no_native _ _ _ _ _ _ is c.is_env.ensures.unchanged c.env_of.ensures.value c.in-Detached.is refl
    (ap (λ (e : Fault). Err e) (absent _ _ _ _ is c.is_env.ensures.unchanged c.env_of.ensures.value c.in-Detached.is))

pub returns-in-Ready : goal.returns-in-Ready
returns-in-Ready g c =
    let is = sym c.is_env.ensures.value ∙ c.if-not-is_env.false in
    by_ready_native _ _ _ _ _ _ _ _ is c.is_env.ensures.unchanged c.env_of.ensures.value c.in-Ready.is
    c.deref_mut.ensures.value c.release_by.ensures.call c.release_by.ensures.marker
