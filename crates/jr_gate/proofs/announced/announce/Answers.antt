use Rattle.std.proofs.Common.{sym, ap, subst, ◌∙◌}
use Rattle.jr_word.specs.declared.fault.Fault.TheVariants.{Moved}
use Rattle.jr_steps.specs.Knowing.{Standing}
use Rattle.jr_gate.specs.Announcing.{WasNotAnnounced}
use Rattle.jr_gate.proofs.Announcing.{announced_in_two, never_closed, never_closed_between}
use Rattle.jr_gate.proofs.Announcing.{never_moved, was_closed, was_closed_between, was_moved_between}
use Rattle.jr_gate.proofs.HandedOn.{handed_err}
use Rattle.jr_gate.proofs.announced.announce.Goals as goal

pub returns-in_err-looked-clause-err : goal.returns-in_err-looked-clause-err
returns-in_err-looked-clause-err g c =
    let T = g.met.S.Steps in
    handed_err c.from_residual.result c.from_residual.ensures.1 (λ e is. was_closed T.some_known c.see_gate.result e
    c.in_err-looked.ensures.err.0 (is ∙ c.in_err-looked.ensures.err.1) c.see_gate.ensures)

pub returns-in_err-looked-clause-alone : goal.returns-in_err-looked-clause-alone
returns-in_err-looked-clause-alone g c one = let T = g.met.S.Steps in absurd (never_closed T.fits T.lone T.some_known
    T.row one c.see_gate.result c.in_err-looked.ensures.err.0 c.see_gate.ensures)

pub returns-in_err-found-clause-err : goal.returns-in_err-found-clause-err
returns-in_err-found-clause-err g c =
    let T = g.met.S.Steps in
    handed_err c.from_residual-in_err-found.result c.from_residual-in_err-found.ensures.1 (λ e is.
    was_closed_between T.some_known c.see_gate.result c.in-Err.found c.in_ok-looked.looked e c.in_ok-looked.ensures.ok
    c.in_err-found.ensures.err.0 (is ∙ c.in_err-found.ensures.err.1) c.see_gate.ensures c.in-Err.ensures)

pub returns-in_err-found-clause-alone : goal.returns-in_err-found-clause-alone
returns-in_err-found-clause-alone g c one =
    let T = g.met.S.Steps in
    absurd (never_closed_between T.fits T.lone T.some_known T.row one c.requires c.see_gate.result c.in-Err.found
    c.in_ok-looked.looked c.in_ok-looked.ensures.ok c.in_err-found.ensures.err.0 c.see_gate.ensures c.in-Err.ensures)

pub returns-in-Err-clause-err : goal.returns-in-Err-clause-err
returns-in-Err-clause-err g c =
    let T = g.met.S.Steps in
    let looked = c.in_ok-looked.looked in
    let found = c.in_ok-found.found in
    subst (λ e. WasNotAnnounced g.S.Steps.facts c.args.steps.now c.announce.new.self e)
    (ap (λ n. Moved n found) (sym c.from.ensures) ∙ ap (λ n. Moved c.from.result n) (sym c.from-in-Err.ensures))
    (was_moved_between T.some_known c.see_gate.result c.in-Err.found looked found c.in_ok-looked.ensures.ok
    c.in_ok-found.ensures.ok c.see_gate.ensures c.in-Err.ensures)

pub returns-in-Err-clause-alone : goal.returns-in-Err-clause-alone
returns-in-Err-clause-alone g c one =
    let T = g.met.S.Steps in
    absurd
    (never_moved T.fits T.lone T.some_known T.row one c.requires c.see_gate.result c.in-Err.found c.in_ok-looked.looked
    c.in_ok-found.found c.in_ok-looked.ensures.ok c.in_ok-found.ensures.ok c.see_gate.ensures c.in-Err.ensures)

pub returns-clause-ok : goal.returns-clause-ok
returns-clause-ok g c =
    let T = g.met.S.Steps in (
      (c.thread.ensures, ap (λ (s : Standing). s.role) c.in_default.ensures.stands_is),
      announced_in_two T.some_known c.see_gate.result c.in_ok-looked.looked c.in_ok-looked.ensures.ok c.see_gate.ensures
          c.in_default.ensures,
    )
