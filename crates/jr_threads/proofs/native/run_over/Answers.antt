use Rattle.std.proofs.Common.{subst, sym}
use Rattle.jr_threads.specs.Parts.{DidOver}
use Rattle.jr_threads.specs.Starting.{HasBegun}
use Rattle.jr_threads.proofs.Coming.{did_over}
use Rattle.jr_threads.proofs.Starting.{has_begun}
use Rattle.jr_threads.proofs.native.run_over.Goals as goal

pub run-answer-requires : goal.run-answer-requires
run-answer-requires g c =
    subst (λ t. HasBegun g.S.Steps.facts g.Q.Site.sizes 4294967295 t c.in-Ok.env.held.steps
    c.in-Ok.env.held.frames.frames) (sym c.thread-thread.ensures)
    (has_begun g.Q.Site.sizes 4294967295 _ c.args.steps c.in-Ok.env.held.steps c.in-Ok.env.held.frames.frames
    c.requires.start c.in-Ok.ensures.steps c.in-Ok.ensures.frames)

pub returns-clause-came : goal.returns-clause-came
returns-clause-came g c tells =
    let does = c.run-answer.ensures.deed tells in
    subst (λ t. DidOver g.S.Steps.facts (g.N.NativeCode.deed c.args.native.now t) c.args.steps c.into_pass.result
    c.run-answer.result) c.thread-thread.ensures
    (did_over g.S.Steps.facts (g.N.NativeCode.deed c.args.native.now c.thread-thread.result) c.args.steps
    c.in-Ok.env.held.steps c.run-answer.new.env.held.steps c.into_pass.result c.in-Ok.env.held.frames.frames
    c.run-answer.new.env.held.frames.frames c.run-answer.result c.in-Ok.ensures.steps
    (does.does c.in-Ok.ensures.outside) (c.into_pass.ensures.steps does.outside) c.in-Ok.ensures.frames)
