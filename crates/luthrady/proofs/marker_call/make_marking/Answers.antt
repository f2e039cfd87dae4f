use Rattle.std.proofs.Common.{◌∙◌, refl, sym}
use Rattle.luthrady.proofs.ThroughPointers.{by_ready_marker, marks_nobody}
use Rattle.luthrady.proofs.marker_call.make_marking.Goals as goal

-- src/marker_call.rt
pub returns-in-Critical : goal.returns-in-Critical
returns-in-Critical g c =
    let is = sym c.is_env.ensures.value ∙ c.if-not-is_env.false in
    marks_nobody _ _ _ _ _ is c.is_env.ensures.unchanged c.env_of.ensures.value c.in-Critical.is refl

pub returns-in-Detached : goal.returns-in-Detached
returns-in-Detached g c =
    let is = sym c.is_env.ensures.value ∙ c.if-not-is_env.false in
    marks_nobody _ _ _ _ _ is c.is_env.ensures.unchanged c.env_of.ensures.value c.in-Detached.is refl

pub returns-in-Ready : goal.returns-in-Ready
returns-in-Ready g c =
    let is = sym c.is_env.ensures.value ∙ c.if-not-is_env.false in
    by_ready_marker _ _ _ _ _ _ is c.is_env.ensures.unchanged c.env_of.ensures.value c.in-Ready.is
    c.deref_mut.ensures.value c.by.ensures.call c.by.ensures.room
