use Rattle.std.proofs.Common.{sym, ap, ◌∙◌, Err, refl}
use Rattle.jr_word.specs.declared.fault.Fault.{Fault}
use Rattle.luthrady.proofs.DoingBy.{by_no_native, by_ready_native}
use Rattle.luthrady.proofs.ThroughPointers.{absent}
use Rattle.luthrady.proofs.strings.read_text.Goals as goal

-- src/strings.rt
pub returns-in-Critical : goal.returns-in-Critical
returns-in-Critical c =
    let is = sym c.is_env.ensures.value ∙ c.if-not-is_env.false in
    by_no_native _ _ _ _ _ _ is c.is_env.ensures.unchanged c.env_of.ensures.value c.in-Critical.is refl (
      ap (λ (e : Fault). Err e)
          (absent _ _ _ _ is c.is_env.ensures.unchanged c.env_of.ensures.value c.in-Critical.is),
      refl,
    )

pub returns-in-Detached : goal.returns-in-Detached
returns-in-Detached c =
    let is = sym c.is_env.ensures.value ∙ c.if-not-is_env.false in
    by_no_native _ _ _ _ _ _ is c.is_env.ensures.unchanged c.env_of.ensures.value c.in-Detached.is refl (
      ap (λ (e : Fault). Err e)
          (absent _ _ _ _ is c.is_env.ensures.unchanged c.env_of.ensures.value c.in-Detached.is),
      refl,
    )

pub returns-in-Ready : goal.returns-in-Ready
returns-in-Ready c =
    let is = sym c.is_env.ensures.value ∙ c.if-not-is_env.false in
    by_ready_native _ _ _ _ _ _ _ _ is c.is_env.ensures.unchanged c.env_of.ensures.value c.in-Ready.is
    c.deref_mut.ensures.value c.read_text_by.ensures.call c.read_text_by.ensures.marker
