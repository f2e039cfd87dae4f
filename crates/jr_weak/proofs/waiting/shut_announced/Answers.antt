use Rattle.std.proofs.Common.{sym, subst}
use Rattle.jr_gate.proofs.HandedOn.{handed_err}
use Rattle.jr_weak.specs.Collecting.{GivesUp}
use Rattle.jr_weak.proofs.AnnouncedCollects.{gives_up_all, not_announced, shuts_announced}
use Rattle.jr_weak.proofs.waiting.shut_announced.Goals as goal

pub returns-in_err-announced-clause-err : goal.returns-in_err-announced-clause-err
returns-in_err-announced-clause-err g c = handed_err c.from_residual.result c.from_residual.ensures.1 (λ e is.
    subst (λ z. GivesUp g.S.Steps.facts c.args.steps.now c.announce.new.steps c.args.tries z) (sym is)
    (not_announced g.S.Steps.facts c.args.tries _ c.in_err-announced.ensures.err))

pub returns-clause-ok : goal.returns-clause-ok
returns-clause-ok g c = shuts_announced g.S.Steps.facts c.args.tries c.requires.outside c.in_ok-announced.ensures.ok.1
    c.shut_within.new.steps c.shut_within.result c.shut_within.ensures.ok

pub returns-clause-err : goal.returns-clause-err
returns-clause-err g c = gives_up_all g.S.Steps.facts c.args.tries c.requires.outside c.in_ok-announced.ensures.ok.1
    c.shut_within.new.steps c.shut_within.result c.shut_within.ensures.err
