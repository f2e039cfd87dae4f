use Rattle.std.proofs.Common.{◌≡◌, ◌+◌, [], ◌∷◌, ◌++◌, length, refl, sym, subst, arith}
use Rattle.std.proofs.lemmas.List.{length-append}
use Rattle.jr_steps.specs.Knowing.{IsLone}
use Rattle.jr_weak.specs.Waiting.{CancelsAfter}
use Rattle.jr_weak.proofs.Tries.{cancels_after, none_refused, refused_more, shuts_after}
use Rattle.jr_weak.proofs.waiting.shut_within.Goals as goal

pub loop-try-init : goal.loop-try-init
loop-try-init g c = (c.requires.own, ([], refl, none_refused g.met.S.Steps.fits c.args.steps.now))

pub shut-requires : goal.shut-requires
shut-requires g c = c.loop-try.invariant.0

pub returns-in-Ok-clause-ok : goal.returns-in-Ok-clause-ok
returns-in-Ok-clause-ok g c =
    let refused = c.loop-try.invariant.1.0 in
    let long = c.loop-try.invariant.1.1 in
    let below = c.loop-try-test.true in
    shuts_after c.args.tries refused (omega arith) c.loop-try.invariant.1.2 c.in-Ok.ensures.ok.1

pub loop-try-preserved : goal.loop-try-preserved
loop-try-preserved g c =
    let refused = c.loop-try.invariant.1.0 in
    let long = c.loop-try.invariant.1.1 in
    let busy = c.in-Err.ensures.err.1 in
    let more : length (refused ++ busy.0 ∷ []) ≡ length refused + 1 = length-append refused (busy.0 ∷ []) in (
      c.in-Err.ensures.err.0,
      (refused ++ busy.0 ∷ [], omega (arith, long, more), refused_more refused busy.0 c.loop-try.invariant.1.2 busy.3),
    )

pub shut-requires-2 : goal.shut-requires-2
shut-requires-2 g c = c.loop-try.invariant.0

pub returns-in-Ok-shut-clause-ok : goal.returns-in-Ok-shut-clause-ok
returns-in-Ok-shut-clause-ok g c =
    let refused = c.loop-try.invariant.1.0 in
    let long = c.loop-try.invariant.1.1 in
    let end = c.loop-try.auto._try-end c.requires.tries in
    shuts_after c.args.tries refused (omega arith) c.loop-try.invariant.1.2 c.in-Ok-shut.ensures.ok.1

pub returns-in-Err-shut-clause-err : goal.returns-in-Err-shut-clause-err
returns-in-Err-shut-clause-err g c =
    let refused = c.loop-try.invariant.1.0 in
    let long = c.loop-try.invariant.1.1 in
    let end = c.loop-try.auto._try-end c.requires.tries in
    let done = c.loop-try-test.false in
    let busy = c.in-Err-shut.ensures.err.1 in
    subst (λ e. CancelsAfter g.S.Steps.facts c.args.steps.now c.cancel.new.steps c.args.tries e) (sym busy.1)
    (cancels_after c.args.tries refused busy.0 busy.2 (omega arith) c.loop-try.invariant.1.2 busy.3 c.cancel.ensures)

pub returns-in-Err-shut-clause-alone : goal.returns-in-Err-shut-clause-alone
returns-in-Err-shut-clause-alone g c lone =
    c.in-Err-shut.ensures.alone (subst IsLone (sym c.loop-try.invariant.1.2.went.stands_is) lone)
