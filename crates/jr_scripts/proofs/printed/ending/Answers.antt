use Rattle.std.proofs.Common.{rules, append_assoc}
use Rattle.jr_scripts.proofs.printed.ending.Goals as goal

pub returns : goal.returns
returns c = simp append_assoc (search rules)
