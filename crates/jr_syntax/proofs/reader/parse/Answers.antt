use Rattle.jr_syntax.proofs.Texts.{only_one}
use Rattle.jr_syntax.proofs.reader.parse.Goals as goal

pub returns-clause-only : goal.returns-clause-only
returns-clause-only c = only_one c.args.text.now c.read.result c.read.ensures.read c.read.ensures.fault
