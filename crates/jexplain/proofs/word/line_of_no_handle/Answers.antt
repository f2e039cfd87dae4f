use Rattle.std.proofs.Common.{rules, append_assoc}
use Rattle.jexplain.proofs.word.line_of_no_handle.Goals as goal

pub returns : goal.returns
returns c = simp append_assoc (search rules)
