use Rattle.std.proofs.Common.{ℕ, subst}
use Rattle.jr_env.specs.Censuses.{announced_census}
use Rattle.jr_env.specs.Envs.{Does}
use Rattle.luthrady.proofs.census.TakeCensusAnnouncedMarkerCall.by.Goals as goal

pub returns-clause-call : goal.returns-clause-call
returns-clause-call c fits =
    subst (λ (n : ℕ). Does c.args.native.now.env c.census_announced.new.self (announced_census n)
    c.census_announced.result) c.some.ensures.tries (c.census_announced.ensures.call fits)
