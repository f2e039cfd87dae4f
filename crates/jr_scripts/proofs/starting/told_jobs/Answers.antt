use Rattle.std.proofs.Common.{◌∙◌}
use Rattle.std.proofs.lemmas.Slice.Zip.{AllZip-long}
use Rattle.jr_scripts.specs.Jobs.{HasRun}
use Rattle.jr_scripts.proofs.starting.told_jobs.Goals as goal

pub told-requires-clause-long : goal.told-requires-clause-long
told-requires-clause-long g c = AllZip-long HasRun _ _ c.in_ok-runs.ensures.each ∙ c.requires.long

pub told-requires-clause-over : goal.told-requires-clause-over
told-requires-clause-over g c = c.in_ok-runs.ensures.over
