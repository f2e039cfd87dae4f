use Rattle.std.proofs.Common.{rules, append_assoc}
use Rattle.jexplain.proofs.word.line_of.Goals as goal

pub returns-in-Local : goal.returns-in-Local
returns-in-Local c = rw (c.in-Local.is) (simp append_assoc (search rules))

pub returns-in-Global : goal.returns-in-Global
returns-in-Global c = simp append_assoc (search rules)

pub returns-in-Weak : goal.returns-in-Weak
returns-in-Weak c = rw (c.in-Weak.is) (simp append_assoc (search rules))
