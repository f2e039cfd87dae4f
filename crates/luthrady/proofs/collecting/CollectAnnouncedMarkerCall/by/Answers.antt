use Rattle.std.proofs.Common.{ℕ, subst}
use Rattle.jr_env.specs.Collections.{announced_collection}
use Rattle.jr_env.specs.Envs.{Does}
use Rattle.luthrady.proofs.collecting.CollectAnnouncedMarkerCall.by.Goals as goal

pub returns-clause-call : goal.returns-clause-call
returns-clause-call c fits =
    subst (λ (n : ℕ). Does c.args.native.now.env c.collect_announced.new.self (announced_collection n)
    c.collect_announced.result) c.some.ensures.tries (c.collect_announced.ensures.call fits)
