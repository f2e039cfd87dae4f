use Rattle.std.proofs.Common.{◌≡◌, ◌<◌, ◌++◌, List, lit<, length, rules, sym, ap, subst, ◌∙◌}
use Rattle.jr_syntax.specs.declared.thread.ThreadPart.{ThreadPart}
use Rattle.jr_scripts.specs.PostedNames.{IsOfPosts, commands_of}
use Rattle.jr_scripts.specs.Text.{ending}
use Rattle.jr_scripts.specs.Jobs.{AreJobsOf, AreTold}
use Rattle.jr_scripts.proofs.JobHandles.{taken}
use Rattle.jr_scripts.proofs.NamedCells.{of_posts}
use Rattle.jr_scripts.proofs.Lines.{jobs_long, passes_long, some_ends}
use Rattle.jr_scripts.proofs.AllTogether.{all_for, all_said, each_has, each_out, first_at, others_at, together}
use Rattle.jr_scripts.proofs.all.text_in_room.Goals as goal

pub jobs_of-requires-clause-passes : goal.jobs_of-requires-clause-passes
jobs_of-requires-clause-passes g c = passes_long _ _ _ _ c.requires.opened
    ∙ (sym c.requires.script.one_each ∙ ap (λ (qs : List ThreadPart). length qs) (sym c.as_slice-parts.ensures))

pub remove-first-requires : goal.remove-first-requires
remove-first-requires g c =
    let some : 0 < length c.in_ok-passes.passes.items =
    some_ends c.args.script.now.config _ _ _ _ c.requires.script.limits
    (ap (λ (qs : List ThreadPart). length qs) c.as_slice-parts.ensures ∙ c.requires.script.one_each)
    c.in_ok-passes.ensures.alike.told in
    search rules

pub run_threads-requires-after_bounds : goal.run_threads-requires-after_bounds
run_threads-requires-after_bounds g c κs lives = (
  lit< tt,
  (
    jobs_long _ _ _ _ _ c.in_ok-jobs.ensures.ok,
    (all_for _ _ _ _ _ _ _ _ c.requires.opened c.in_ok-jobs.ensures.ok, c.requires.site),
  ),
)

pub closed-requires : goal.closed-requires
closed-requires g c =
    let is = taken c.in_ok-passes.passes.items c.remove-first.new.self.items c.remove-first.result (search rules)
    c.remove-first.ensures.value c.remove-first.ensures.items in
    let o = c.requires.opened in
    record {
      first = first_at _ _ _ _ _ _ _ _ _ _ _ _ _ o c.in_ok-jobs.ensures.ok c.in_ok-passes.ensures.ran.each
          c.in_ok-passes.ensures.alike.told is;
      others = others_at _ _ _ _ _ _ _ _ _ _ _ _ _ o c.in_ok-jobs.ensures.ok c.in_ok-passes.ensures.ran.each
          c.in_ok-passes.ensures.alike.told is;
      each = each_has _ _ _ _ _ _ _ _ _ _ _ _ _ o c.in_ok-jobs.ensures.ok c.in_ok-passes.ensures.ran.each
          c.in_ok-passes.ensures.alike.told is;
      outside = each_out _ _ _ _ _ _ _ _ _ _ _ _ _ o c.in_ok-jobs.ensures.ok c.in_ok-passes.ensures.ran.each
          c.in_ok-passes.ensures.alike.told is;
    }

pub returns-clause-ok : goal.returns-clause-ok
returns-clause-ok g c =
    let is = taken c.in_ok-passes.passes.items c.remove-first.new.self.items c.remove-first.result (search rules)
    c.remove-first.ensures.value c.remove-first.ensures.items in
    let script = c.args.script.now in
    let parts = c.as_slice-parts.ensures in
    let end : c.in_ok-end.end.items ≡ ending c.closed.result = search rules in
    let last : c.extend_from_slice.new.self.items ≡ c.in_ok-passes.text.items ++ c.in_ok-end.end.items = search rules in
    let board = c.in_ok-passes.ensures.alike.board in
    let rank = c.in_ok-passes.ensures.alike.rank in
    together board rank c.args.turns _ script c.args.room.row c.args.passes.items c.in_ok-jobs.jobs.items
    c.in_ok-passes.ensures.runs c.in_ok-passes.passes.items c.remove-first.result c.remove-first.new.self.items
    c.in_ok-passes.text.items c.extend_from_slice.new.self.items c.closed.result
    c.requires.script c.requires.opened
    (subst (λ qs. AreJobsOf c.args.turns 2 c.args.passes.items qs c.in_ok-jobs.jobs.items) parts
    c.in_ok-jobs.ensures.ok)
    (all_said board rank c.in_ok-jobs.jobs.items c.in_ok-passes.ensures.runs c.in_ok-passes.ensures.ran.each
    c.in_ok-passes.ensures.alike.noted)
    (subst (λ qs. IsOfPosts (commands_of qs) board) parts
    (of_posts _ c.in_ok-board.board.numbers.entries board c.in_ok-board.ensures.ok c.in_ok-passes.ensures.alike.named))
    (subst (λ qs. AreTold qs c.in_ok-passes.ensures.runs c.in_ok-passes.passes.items c.in_ok-passes.text.items) parts
    c.in_ok-passes.ensures.alike.told)
    is c.closed.ensures (last ∙ ap (λ e. c.in_ok-passes.text.items ++ e) end)
