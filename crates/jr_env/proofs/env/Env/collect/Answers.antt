use Rattle.jr_env.proofs.EnvCalls.{does_more}
use Rattle.jr_env.proofs.WholeCollections.{plain_collection}
use Rattle.jr_env.proofs.env.Env.collect.Goals as goal

pub returns-clause-call : goal.returns-clause-call
returns-clause-call g c fits =
    let x = c.collect_listing in
    does_more (λ p q z. plain_collection _ _ p q x.result z) (x.ensures.call fits)
