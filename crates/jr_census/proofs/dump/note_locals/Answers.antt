use Rattle.std.proofs.Common.{◌*◌, ◌∙◌, ap}
use Rattle.jr_word.specs.declared.config.Config.{Config}
use Rattle.jr_census.proofs.LocalsDumped.{threads_kept_next}
use Rattle.jr_census.proofs.dump.note_locals.Goals as goal

pub loop-thread-preserved : goal.loop-thread-preserved
loop-thread-preserved g c =
    let p = c.loop-thread.invariant in
    let s = ap (λ (z : Config). z.locals) c.config-config.ensures in (
      threads_kept_next g.met.S.Steps.fits c.loop-thread.thread (c.loop-thread.thread * c.config-config.result.locals)
          c.loop-thread.locals c.note_locals_of.new.locals c.requires.role (ap (λ n. c.loop-thread.thread * n) s)
          c.note_locals_of.ensures.before p.0 c.note_locals_of.ensures.told,
      c.note_locals_of.ensures.size ∙ p.1,
    )
