use Rattle.jr_env.proofs.StandingRegions.{last_undisturbed, stands_before}
use Rattle.jr_env.proofs.levels_beside.close.Goals as goal

pub returns-clause-region : goal.returns-clause-region
returns-clause-region g c = stands_before c.args.env.now.held c.close.new.held c.close.ensures.frames c.args.levels
    c.close.result c.close.ensures.levels c.close.ensures.stand c.close.ensures.call

pub returns-clause-undisturbed : goal.returns-clause-undisturbed
returns-clause-undisturbed g c = last_undisturbed c.args.env.now.held c.close.new.held c.close.ensures.frames
    c.args.levels c.close.result c.close.ensures.levels c.close.ensures.call
