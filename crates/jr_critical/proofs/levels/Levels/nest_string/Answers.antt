use Rattle.jr_critical.proofs.levels.Levels.nest_string.Goals as goal

pub returns-clause-call : goal.returns-clause-call
returns-clause-call g c = c.nest.ensures.call
