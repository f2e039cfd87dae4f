use Rattle.std.proofs.Common.{sym, ap, ◌∙◌, Err, refl}
use Rattle.jr_word.specs.declared.fault.Fault.{Fault}
use Rattle.luthrady.proofs.DoingBy.{by_no_native, by_ready_native}
use Rattle.luthrady.proofs.ThroughPointers.{absent}
use Rattle.luthrady.proofs.dumping.dump.Goals as goal

-- src/dumping.rt
pub returns-in-Critical-clause-call : goal.returns-in-Critical-clause-call
returns-in-Critical-clause-call c =
    let is = sym c.is_env.ensures.value ∙ c.if-not-is_env.false in
    by_no_native _ _ _ _ _ _ is c.is_env.ensures.unchanged c.env_of.ensures.value c.in-Critical.is refl
    (ap (λ (e : Fault). Err e) (absent _ _ _ _ is c.is_env.ensures.unchanged c.env_of.ensures.value c.in-Critical.is))

pub returns-in-Detached-clause-call : goal.returns-in-Detached-clause-call
returns-in-Detached-clause-call c =
    let is = sym c.is_env.ensures.value ∙ c.if-not-is_env.false in
    by_no_native _ _ _ _ _ _ is c.is_env.ensures.unchanged c.env_of.ensures.value c.in-Detached.is refl
    (ap (λ (e : Fault). Err e) (absent _ _ _ _ is c.is_env.ensures.unchanged c.env_of.ensures.value c.in-Detached.is))

pub returns-in-Ready-clause-call : goal.returns-in-Ready-clause-call
returns-in-Ready-clause-call c =
    let is = sym c.is_env.ensures.value ∙ c.if-not-is_env.false in
    by_ready_native _ _ _ _ _ _ _ _ is c.is_env.ensures.unchanged c.env_of.ensures.value c.in-Ready.is
    c.deref_mut.ensures.value c.dump_by.ensures.call c.dump_by.ensures.marker
