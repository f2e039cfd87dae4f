use Rattle.jr_env.proofs.AnnouncedCollections.{plain_announced}
use Rattle.jr_env.proofs.EnvCalls.{does_more}
use Rattle.jr_env.proofs.Remedies.{until_each}
use Rattle.jr_env.proofs.env.Env.collect_in_turn.Goals as goal

pub returns-clause-call : goal.returns-clause-call
returns-clause-call g c fits =
    does_more (λ p q z. until_each (λ p' q' r y. plain_announced c.args.tries _ _ p' q' r y) z)
    (c.collect_in_turn_listing.ensures.call fits)
