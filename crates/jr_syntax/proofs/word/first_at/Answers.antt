use Rattle.std.proofs.Common.{nat_eq}
use Rattle.jr_syntax.proofs.Cuts.{cut_at}
use Rattle.jr_syntax.proofs.word.first_at.Goals as goal

pub returns : goal.returns
returns c = cut_at (λ b. nat_eq b c.args.byte) c.args.bytes.now 0 c.position_of.result c.position_of.ensures
