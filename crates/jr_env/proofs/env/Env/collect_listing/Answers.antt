use Rattle.std.proofs.Common.{inr, ap, ◌∙◌}
use Rattle.jr_word.specs.declared.config.Config.{Config}
use Rattle.jr_env.proofs.EndedStays.{can_call}
use Rattle.jr_env.proofs.WholeCollections.{collected}
use Rattle.jr_env.proofs.env.Env.collect_listing.Goals as goal

pub invariant_of-held : goal.invariant_of-held
invariant_of-held g c =
    let x = c.collect_listing in
    let did =
    collected _ _ x.result c.outside.ensures x.ensures.ok x.ensures.err in
    record { own = did.0.own }

pub invariant_of-self : goal.invariant_of-self
invariant_of-self g c =
    let x = c.collect_listing in
    let did =
    collected _ _ x.result c.outside.ensures x.ensures.ok x.ensures.err in
    record { ready = can_call did.0 }

pub returns-clause-call : goal.returns-clause-call
returns-clause-call g c fits =
    let x = c.collect_listing in
    let did =
    collected _ _ x.result c.outside.ensures x.ensures.ok x.ensures.err in
    did.1

pub returns-clause-alone : goal.returns-clause-alone
returns-clause-alone g c fits one =
    c.collect_listing.ensures.alone (inr (ap (λ (z : Config). z.threads) c.outside.ensures.config ∙ one))
