use Rattle.std.proofs.Common.{◌∙◌, refl, sym}
use Rattle.luthrady.proofs.ThroughPointers.{by_nobody, by_ready}
use Rattle.luthrady.proofs.array_parts.read.Goals as goal

-- src/array_parts.rt
pub returns-in-Critical-clause-call : goal.returns-in-Critical-clause-call
returns-in-Critical-clause-call g c =
    let is = sym c.is_env.ensures.value ∙ c.if-not-is_env.false in
    by_nobody _ _ _ _ _ is c.is_env.ensures.unchanged c.env_of.ensures.value c.in-Critical.is refl

pub returns-in-Detached-clause-call : goal.returns-in-Detached-clause-call
returns-in-Detached-clause-call g c =
    let is = sym c.is_env.ensures.value ∙ c.if-not-is_env.false in
    by_nobody _ _ _ _ _ is c.is_env.ensures.unchanged c.env_of.ensures.value c.in-Detached.is refl

pub returns-in-Ready-clause-call : goal.returns-in-Ready-clause-call
returns-in-Ready-clause-call g c =
    let is = sym c.is_env.ensures.value ∙ c.if-not-is_env.false in
    by_ready _ _ _ _ _ _ is c.is_env.ensures.unchanged c.env_of.ensures.value c.in-Ready.is
    c.deref_mut.ensures.value c.read_by.ensures.call c.read_by.ensures.marker
