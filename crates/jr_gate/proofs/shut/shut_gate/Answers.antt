use Rattle.std.proofs.Common.{ap, refl}
use Rattle.jr_steps.specs.Knowing.{Standing}
use Rattle.jr_gate.proofs.Alone.{never_busy}
use Rattle.jr_gate.proofs.Closing.{busy_counts, shut_closes, shut_shows}
use Rattle.jr_gate.proofs.shut.shut_gate.Goals as goal

pub returns-in-Ok-clause-ok : goal.returns-in-Ok-clause-ok
returns-in-Ok-clause-ok g c =
    ((c.thread.ensures, ap (λ (s : Standing). s.role) c.in-Ok.ensures.stands_is), shut_shows c.in-Ok.ensures)

pub returns-in-Ok-clause-closed : goal.returns-in-Ok-clause-closed
returns-in-Ok-clause-closed g c = shut_closes (g.met.S.Steps.some_known c.args.steps.now) c.in-Ok.ensures

pub returns-in-Err-clause-err : goal.returns-in-Err-clause-err
returns-in-Err-clause-err g c = let t = c.in-Err.ensures in
    (c.in-Err.count, refl, busy_counts (g.met.S.Steps.some_known c.args.steps.now) c.in-Err.count t, t)

pub returns-in-Err-clause-alone : goal.returns-in-Err-clause-alone
returns-in-Err-clause-alone g c one = let T = g.met.S.Steps in
    absurd (never_busy T.fits T.lone (T.some_known c.args.steps.now) one c.in-Err.count c.in-Err.ensures)
