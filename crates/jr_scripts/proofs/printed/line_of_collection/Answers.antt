use Rattle.std.proofs.Common.{rules, append_assoc}
use Rattle.jr_scripts.proofs.printed.line_of_collection.Goals as goal

pub returns : goal.returns
returns c = simp append_assoc (search rules)
