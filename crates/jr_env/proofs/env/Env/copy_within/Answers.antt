use Rattle.jr_env.proofs.env.Env.copy_within.Goals as goal

pub returns-clause-call : goal.returns-clause-call
returns-clause-call g c = record { did = c.copy_inside.ensures.call; on = c.copy_inside.ensures.on }
