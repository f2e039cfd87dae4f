use Rattle.std.proofs.Common.{sym}
use Rattle.jr_rule.proofs.Ended.{read_at}
use Rattle.jr_rule.proofs.closing.ClosedWordsRowWords.word.Goals as goal

pub returns : goal.returns
returns c = sym (read_at _ c.args.at c.word.result c.word.ensures)
