use Rattle.jr_env.proofs.env.Env.make_inside.Goals as goal

pub returns-clause-call : goal.returns-clause-call
returns-clause-call g c = record { did = c.make_within.ensures.call; on = c.make_within.ensures.on }
