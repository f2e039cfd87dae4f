use Rattle.std.proofs.Common.{◌≡◌, ◌++◌, rules, ap, ◌∙◌}
use Rattle.jr_scripts.specs.Posting.{WasInVain}
use Rattle.jr_scripts.specs.Text.{heading, ending}
use Rattle.jr_scripts.proofs.Speaking.{carried}
use Rattle.jr_scripts.proofs.ToEnd.{ran_still}
use Rattle.jr_scripts.proofs.AloneCase.LoneMeans.{lone_means}
use Rattle.jr_scripts.proofs.WholeRun.{plain_run}
use Rattle.jr_scripts.proofs.single.run_part.Goals as goal

pub returns-clause-ok : goal.returns-clause-ok
returns-clause-ok c =
    let x = c.run_to_end.ensures.ended in
    let made = c.in_ok-steps.steps in
    let head : c.in_ok-text.text.items ≡ heading c.args.part.now.name = search rules in
    let end : c.in_ok-end.end.items ≡ ending c.summary-summary.result = search rules in
    let last : c.extend_from_slice.new.self.items ≡ c.run_to_end.new.out.items ++ c.in_ok-end.end.items =
    search rules in
    let whole : c.extend_from_slice.new.self.items
    ≡ heading c.args.part.now.name ++ x.0 ++ ending c.summary-summary.result =
    last ∙ (ap (λ l. l ++ c.in_ok-end.end.items) (x.1 ∙ ap (λ h. h ++ x.0) head)
    ∙ ap (λ e. heading c.args.part.now.name ++ x.0 ++ e) end) in
    plain_run {commands = c.as_slice.result.now} c.args.turns c.args.config c.args.part.now x.0
    c.extend_from_slice.new.self.items c.summary-summary.result made c.requires.one
    c.in_ok-steps.ensures.opened c.opened_env-env.ensures.steps c.opened_env-env.ensures.frames (search rules)
    (search rules) (ran_still (carried (λ words n w h. Unit {0}) (λ words n w h. Unit {0}) (λ n w h. ⊥) (λ n w h. ⊥)
    (WasInVain (λ first n found last. Unit {0}) c.args.turns) (λ n. Unit {0}) (λ words n w h t. tt) (λ n w h t. t)
    (λ n v. tt)) x.2) c.summary-summary.ensures whole

pub returns-clause-means : goal.returns-clause-means
returns-clause-means c = lone_means c.args.turns 4294967295 c.args.config c.args.part.now
    c.extend_from_slice.new.self.items c.requires.one c.requires.limits c.requires.once (returns-clause-ok c)
