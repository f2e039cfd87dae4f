use Rattle.std.proofs.Common.{◌+◌, inr, ap, ◌∙◌}
use Rattle.jr_word.specs.declared.config.Config.{Config}
use Rattle.jr_weak.specs.Counting.{sweeping_steps}
use Rattle.jr_env.proofs.AnnouncedCollections.{collected_announced, counts_from, no_turn}
use Rattle.jr_env.proofs.EndedStays.{can_call}
use Rattle.jr_env.proofs.env.Env.collect_announced_listing.Goals as goal

pub invariant_of-held : goal.invariant_of-held
invariant_of-held g c =
    let x = c.collect_announced_listing in
    let did =
    collected_announced c.args.tries _ _ x.result c.outside.ensures x.ensures.ok x.ensures.err in
    record { own = did.0.own }

pub invariant_of-self : goal.invariant_of-self
invariant_of-self g c =
    let x = c.collect_announced_listing in
    let did =
    collected_announced c.args.tries _ _ x.result c.outside.ensures x.ensures.ok x.ensures.err in
    record { ready = can_call did.0 }

pub returns-clause-call : goal.returns-clause-call
returns-clause-call g c fits =
    let x = c.collect_announced_listing in
    let did =
    collected_announced c.args.tries _ _ x.result c.outside.ensures x.ensures.ok x.ensures.err in
    did.1

pub returns-clause-refused : goal.returns-clause-refused
returns-clause-refused g c fits =
    let x = c.collect_announced_listing in
    no_turn g.S.Steps.facts c.outside.new.held.steps x.new.steps c.args.tries x.result
    (g.met.S.Steps.some_known c.outside.new.held.steps) x.ensures.err

pub returns-clause-alone : goal.returns-clause-alone
returns-clause-alone g c fits one =
    c.collect_announced_listing.ensures.alone (inr (ap (λ (z : Config). z.threads) c.outside.ensures.config ∙ one))

pub returns-clause-counted : goal.returns-clause-counted
returns-clause-counted g c =
    let x = c.collect_announced_listing in
    counts_from g.S.Steps.facts x.new.steps c.args.tries (λ k. sweeping_steps k + 1) x.result
    c.outside.ensures x.ensures.counted
