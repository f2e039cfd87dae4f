use Rattle.jr_env.proofs.StandingRegions.{all_undisturbed}
use Rattle.jr_env.proofs.levels_beside.close_all.Goals as goal

pub returns-clause-undisturbed : goal.returns-clause-undisturbed
returns-clause-undisturbed g c = all_undisturbed c.args.env.now.held c.close_all.new.held c.close_all.ensures.frames
    c.args.levels c.close_all.ensures.call
