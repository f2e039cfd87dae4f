use Rattle.std.proofs.Common.{◌∙◌, refl, sym}
use Rattle.luthrady.proofs.Batching.{batches_nobody, by_ready_in_stay}
use Rattle.luthrady.proofs.batches.batch.Goals as goal

-- src/batches.rt
pub returns-in-Critical : goal.returns-in-Critical
returns-in-Critical c =
    let is = sym c.is_env.ensures.value ∙ c.if-not-is_env.false in
    batches_nobody _ _ _ _ _ is c.is_env.ensures.unchanged c.env_of.ensures.value c.in-Critical.is refl

pub returns-in-Detached : goal.returns-in-Detached
returns-in-Detached c =
    let is = sym c.is_env.ensures.value ∙ c.if-not-is_env.false in
    batches_nobody _ _ _ _ _ is c.is_env.ensures.unchanged c.env_of.ensures.value c.in-Detached.is refl

pub returns-in-Ready : goal.returns-in-Ready
returns-in-Ready c =
    let is = sym c.is_env.ensures.value ∙ c.if-not-is_env.false in
    by_ready_in_stay _ _ _ _ _ _ _ _ _ is c.is_env.ensures.unchanged c.env_of.ensures.value c.in-Ready.is
    c.deref_mut.ensures.value c.batch_by.ensures.call c.batch_by.ensures.marker
