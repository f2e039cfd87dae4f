use Rattle.std.proofs.Common.{rules}
use Rattle.jr_syntax.proofs.Cuts.{lines_of_cut}
use Rattle.jr_syntax.proofs.line.Lines.next.Goals as goal

pub returns-in-Some-clause-some : goal.returns-in-Some-clause-some
returns-in-Some-clause-some c =
    let e = lines_of_cut c.in_ok-text.text.now c.in-Some.at c.in-Some.ensures in
    search rules
