use Rattle.std.proofs.Common.{ℕ, subst}
use Rattle.jr_env.specs.Envs.{Does}
use Rattle.jr_env.specs.Remedies.{collection_in_turn}
use Rattle.jr_env.proofs.AnnouncedCollections.{plain_announced}
use Rattle.jr_env.proofs.EnvCalls.{does_more}
use Rattle.jr_env.proofs.Remedies.{until_each}
use Rattle.luthrady.proofs.collecting.CollectInTurnMarkerCall.by.Goals as goal

pub returns-clause-call : goal.returns-clause-call
returns-clause-call c fits =
    subst (λ (n : ℕ). Does c.args.native.now.env c.collect_until_served.new.env (collection_in_turn n c.args.self.more)
    c.collect_until_served.result) c.some.ensures.tries
    (does_more (λ p q z. until_each (λ p' q' r y. plain_announced c.some.result _ _ p' q' r y) z)
    (c.collect_until_served.ensures.call fits))
