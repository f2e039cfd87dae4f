use Rattle.std.proofs.Common.{◌∙◌, refl, sym}
use Rattle.luthrady.proofs.ListedWords.{by_ready_lister, lists_nobody}
use Rattle.luthrady.proofs.listing.list.Goals as goal

-- src/listing.rt
pub returns-in-Critical-clause-call : goal.returns-in-Critical-clause-call
returns-in-Critical-clause-call c =
    let is = sym c.is_env.ensures.value ∙ c.if-not-is_env.false in
    lists_nobody _ _ _ _ _ is c.is_env.ensures.unchanged c.env_of.ensures.value c.in-Critical.is refl

pub returns-in-Detached-clause-call : goal.returns-in-Detached-clause-call
returns-in-Detached-clause-call c =
    let is = sym c.is_env.ensures.value ∙ c.if-not-is_env.false in
    lists_nobody _ _ _ _ _ is c.is_env.ensures.unchanged c.env_of.ensures.value c.in-Detached.is refl

pub returns-in-Ready-clause-call : goal.returns-in-Ready-clause-call
returns-in-Ready-clause-call c =
    let is = sym c.is_env.ensures.value ∙ c.if-not-is_env.false in
    by_ready_lister _ _ _ _ _ _ _ is c.is_env.ensures.unchanged c.env_of.ensures.value c.in-Ready.is
    c.deref_mut.ensures.value c.list_by.ensures.call
