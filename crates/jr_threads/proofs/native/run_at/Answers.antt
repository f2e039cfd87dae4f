use Rattle.std.proofs.Common.{◌∙◌, ap, subst}
use Rattle.jr_model.specs.Frames.{fresh_frames}
use Rattle.jr_rule.specs.Passes.{Holder, facts_of, holder_of}
use Rattle.jr_rule.specs.Rooms.{holder_over}
use Rattle.jr_threads.specs.Parts.{DidWithPass}
use Rattle.jr_threads.proofs.Coming.{come}
use Rattle.jr_threads.proofs.Starting.{opened_steps}
use Rattle.jr_threads.proofs.native.run_at.Goals as goal

pub run_over-answer-requires-clause-start : goal.run_over-answer-requires-clause-start
run_over-answer-requires-clause-start g c κs lives =
    opened_steps holder_over c.args.room.now.row c.args.pass c.new-steps.result g.Q.Site.sizes 4294967295
    c.requires.pass c.requires.site.sizes_are c.args.room.now.last c.new-steps.ensures.pass

pub returns-clause-came : goal.returns-clause-came
returns-clause-came g c tells =
    let ran = c.run_over-answer.ensures.came tells in
    let old = c.new-steps.ensures.pass in
    let number = ap (λ (h : Holder). (facts_of h).stands.thread) old ∙ c.args.pass.held.thread_is in
    subst (λ t. DidWithPass (g.N.NativeCode.deed c.args.native.now t) c.args.pass (holder_of c.into_pass-pass.result)
    c.run_over-answer.result.0) number
    (come holder_over (g.N.NativeCode.deed c.args.native.now (facts_of (holder_over c.new-steps.result)).stands.thread)
    c.new-steps.result ran.spent c.run_over-answer.result.1 c.args.pass (holder_of c.into_pass-pass.result)
    (fresh_frames (facts_of (holder_over c.new-steps.result)).stands.config.locals) ran.frames
    c.run_over-answer.result.0 ran.spends ran.did old c.into_pass-pass.ensures.pass
    (ap (λ (h : Holder). fresh_frames (facts_of h).stands.config.locals) old))
