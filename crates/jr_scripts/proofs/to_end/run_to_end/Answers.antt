use Rattle.jr_scripts.proofs.ToEnd.{ran_to_end}
use Rattle.jr_scripts.proofs.to_end.run_to_end.Goals as goal

pub returns-clause-ended : goal.returns-clause-ended
returns-clause-ended g c = let x = c.run_with_marker-answer.ensures.explained in
    (x.0, x.1, ran_to_end x.2 c.retry.ensures)
