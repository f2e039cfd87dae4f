use Rattle.std.proofs.Common.{◌++◌, ap, ◌∙◌}
use Rattle.jr_model.specs.Frames.{fresh_frames}
use Rattle.jr_rule.specs.Passes.{Holder, facts_of}
use Rattle.jr_rule.specs.Rooms.{holder_over}
use Rattle.jr_scripts.specs.Layouts.{layout_of}
use Rattle.jr_scripts.specs.Posting.{WasInVain}
use Rattle.jr_scripts.specs.Telling.{account_told, talk_told}
use Rattle.jr_scripts.proofs.OneOfAll.{ran_pass}
use Rattle.jr_scripts.proofs.Speaking.{carried}
use Rattle.jr_scripts.proofs.ToEnd.{ran_still}
use Rattle.jr_scripts.proofs.part.run_job.Goals as goal

pub returns-clause-ran : goal.returns-clause-ran
returns-clause-ran g c =
    let x = c.run_to_end-answer.ensures.ended in
    let account = account_told {Q = g.row.Q.Denot} {G = g.Q.Site} c.run_to_end-answer.new.board.is_lost
    c.run_to_end-answer.new.board.posts.now.numbers.entries c.run_to_end-answer.new.board.notes.items in
    ran_pass holder_over c.new.result _ _ c.args.job.pass c.into_pass.result _ _ (talk_told {Q = g.row.Q.Denot}
    {G = g.Q.Site} c.run_to_end-answer.new.board.is_lost c.run_to_end-answer.new.board.posts.now.numbers.entries
    c.run_to_end-answer.new.board.notes.items) c.args.job.task.turns c.args.job.task.first c.args.job.task.commands.now
    c.run_to_end-answer.result _ x.0 c.opened_env-env.ensures.steps c.run_to_end-answer.new.env.ready.spent
    (ran_still (carried account.posted account.posted account.heard account.heard (WasInVain
    (λ first n found last. Unit {0}) c.args.job.task.turns) (λ n. Unit {0}) (λ words n w h t. t) (λ n w h t. t)
    (λ n v. tt)) x.2) c.new.ensures.pass
    (c.into_pass.ensures.pass
    ∙ ap holder_over (c.into_pass-steps.ensures.steps (x.2.stands_is.role ∙ c.opened_env-env.ensures.outside)))
    (c.opened_env-env.ensures.frames
    ∙ ap (λ (h : Holder). fresh_frames (facts_of h).stands.config.locals) c.new.ensures.pass)
    (x.1 ∙ ap (λ l. l ++ x.0) c.new-text.ensures.items)

pub returns-clause-over : goal.returns-clause-over
returns-clause-over g c = c.run_to_end-answer.ensures.kept.same ∙ ap layout_of c.new-notes.ensures
