use Rattle.std.proofs.Common.{◌∙◌, refl, sym}
use Rattle.luthrady.proofs.ThroughPointers.{by_nobody, by_ready}
use Rattle.luthrady.proofs.thread_call.make_by_thread.Goals as goal

-- src/thread_call.rt
pub returns-in-Critical : goal.returns-in-Critical
returns-in-Critical g c =
    let is = sym c.is_env.ensures.value ∙ c.if-not-is_env.false in
    by_nobody _ _ _ _ _ is c.is_env.ensures.unchanged c.env_of.ensures.value c.in-Critical.is refl

pub returns-in-Detached : goal.returns-in-Detached
returns-in-Detached g c =
    let is = sym c.is_env.ensures.value ∙ c.if-not-is_env.false in
    by_nobody _ _ _ _ _ is c.is_env.ensures.unchanged c.env_of.ensures.value c.in-Detached.is refl

pub returns-in-Ready : goal.returns-in-Ready
returns-in-Ready g c =
    let is = sym c.is_env.ensures.value ∙ c.if-not-is_env.false in
    by_ready _ _ _ _ _ _ is c.is_env.ensures.unchanged c.env_of.ensures.value c.in-Ready.is
    c.deref_mut.ensures.value c.by.ensures.call c.by.ensures.marker
