use Rattle.jr_scripts.proofs.TogetherRun.AllMean.{all_mean}
use Rattle.jr_scripts.proofs.laws.runs_mean.Goals as goal

pub returns : goal.returns
returns c = all_mean
