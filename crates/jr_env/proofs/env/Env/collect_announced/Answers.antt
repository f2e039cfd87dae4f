use Rattle.jr_env.proofs.AnnouncedCollections.{plain_announced}
use Rattle.jr_env.proofs.EnvCalls.{does_more}
use Rattle.jr_env.proofs.env.Env.collect_announced.Goals as goal

pub returns-clause-call : goal.returns-clause-call
returns-clause-call g c fits =
    let x = c.collect_announced_listing in
    does_more (λ p q z. plain_announced c.args.tries _ _ p q x.result z) (x.ensures.call fits)

pub returns-clause-counted : goal.returns-clause-counted
returns-clause-counted g c = c.collect_announced_listing.ensures.counted
