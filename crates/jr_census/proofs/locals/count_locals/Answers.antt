use Rattle.std.proofs.Common.{ℕ, replicate, ◌∙◌, refl, ap, arith, length-set}
use Rattle.std.proofs.lemmas.List.{length-replicate}
use Rattle.jr_word.specs.declared.config.Config.{Config}
use Rattle.jr_word.proofs.Limits.{limited}
use Rattle.jr_census.proofs.LocalsCounted.{none_beyond, none_yet, threads_none, threads_next, threads_all}
use Rattle.jr_census.proofs.locals.count_locals.Goals as goal

pub loop-thread-init : goal.loop-thread-init
loop-thread-init g c = (
  threads_none g.met.S.Steps.fits (replicate {A = ℕ} 64 0) c.args.steps.now,
  length-replicate {A = ℕ} 64 0,
  none_yet 64,
)

pub loop-thread-preserved : goal.loop-thread-preserved
loop-thread-preserved g c =
    let p = c.loop-thread.invariant in
    let most =
    (limited (g.S.Steps.facts c.args.steps.now).stands.config (g.met.S.Steps.limits c.args.steps.now)).threads.1 in
    let s = ap (λ (z : Config). z.threads) c.config-threads.ensures in
    let l = c.loop-thread-test.true in
    let long = p.1 in (
      threads_next g.met.S.Steps.fits c.loop-thread.thread c.count_locals_of.result c.loop-thread.counts _
          c.requires.role (omega arith) p.0 c.count_locals_of.ensures refl,
      length-set c.loop-thread.counts c.loop-thread.thread c.count_locals_of.result ∙ p.1,
      none_beyond c.loop-thread.thread c.loop-thread.counts c.count_locals_of.result p.2,
    )

pub returns : goal.returns
returns g c =
    let a = c.loop-thread.auto.thread-end in
    let b = c.loop-thread-test.false in
    let s = ap (λ (z : Config). z.threads) c.config-threads.ensures in
    threads_all g.met.S.Steps.fits c.loop-thread.thread c.loop-thread.counts (omega arith) c.loop-thread.invariant.2
    c.loop-thread.invariant.0
