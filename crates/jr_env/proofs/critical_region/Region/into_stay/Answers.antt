use Rattle.std.proofs.Common.{subst, sym}
use Rattle.jr_env.specs.StayLevels.{StaysWithout}
use Rattle.jr_env.proofs.StayLevels.{given_up}
use Rattle.jr_env.proofs.critical_region.Region.into_stay.Goals as goal

pub returns-clause-on : goal.returns-clause-on
returns-clause-on g c = subst (λ e. StaysWithout c.args.self.env.now.held e.held c.args.self.levels)
    (sym c.over.ensures.env) (given_up c.args.self.env.now.held c.args.self.levels)
