use Rattle.std.proofs.Common.{refl, ap, ◌∙◌, arith}
use Rattle.jr_word.specs.declared.config.Config.{Config}
use Rattle.jr_weak.proofs.RootMarks.{threads_none, threads_next, threads_all}
use Rattle.jr_weak.proofs.marker.Marker.mark_locals.Goals as goal

pub loop-thread-init : goal.loop-thread-init
loop-thread-init g c = (threads_none g.met.S.Steps.fits c.args.self.now.marked.items c.args.steps.now, refl)

pub loop-thread-preserved : goal.loop-thread-preserved
loop-thread-preserved g c = (
  threads_next g.met.S.Steps.fits c.loop-thread.thread c.requires.role c.loop-thread.invariant.0
      c.mark_locals_of.ensures.marks,
  c.mark_locals_of.ensures.room ∙ c.loop-thread.invariant.1,
)

pub returns-clause-marks : goal.returns-clause-marks
returns-clause-marks g c =
    let a = c.loop-thread.auto.thread-end in
    let b = c.loop-thread-test.false in
    let s = ap (λ (z : Config). z.threads) c.config-threads.ensures in
    threads_all g.met.S.Steps.fits c.loop-thread.thread (omega arith) c.loop-thread.invariant.0
