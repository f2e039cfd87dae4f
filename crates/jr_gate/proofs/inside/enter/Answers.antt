use Rattle.std.proofs.Common.{refl}
use Rattle.jr_gate.proofs.Alone.{never_knocks}
use Rattle.jr_gate.proofs.Withdrawing.{withdrawn}
use Rattle.jr_gate.proofs.inside.enter.Goals as goal

pub returns-clause-err : goal.returns-clause-err
returns-clause-err g c = (refl, withdrawn c.if-go_in.ensures c.go_out.ensures)

pub returns-clause-alone : goal.returns-clause-alone
returns-clause-alone g c one = let T = g.met.S.Steps in
    absurd (never_knocks T.fits T.lone (T.some_known c.args.steps.now) one c.if-go_in.ensures)
