use Rattle.std.proofs.Common.{◌≡◌, ◌≤◌, ◌++◌, List, [], ◌∷◌, length, rules, arith, ap, sym, subst, ◌∙◌}
use Rattle.std.proofs.lemmas.List.Elements.{All-head, All-rest, All-same}
use Rattle.std.specs.List.{AllByRecursion}
use Rattle.jr_scripts.specs.Layouts.{Layout, layout_of}
use Rattle.jr_scripts.specs.NotedWords.{HasAllOf}
use Rattle.jr_scripts.specs.Jobs.{IsOver, IsToldBy, board_noted, rank_noted}
use Rattle.jr_scripts.proofs.Noted.{told_by_board}
use Rattle.jr_scripts.specs.declared.part.ThreadRun.{ThreadRun}
use Rattle.jr_scripts.specs.Text.{heading}
use Rattle.jr_scripts.proofs.JobHandles.{none_left, taken}
use Rattle.jr_scripts.proofs.JobLists.{told_more, told_end}
use Rattle.jr_scripts.proofs.gathering.told_by.Goals as goal

pub loop-part-preserved : goal.loop-part-preserved
loop-part-preserved g c =
    let head : c.in_ok-head.head.items ≡ heading c.part-item.result.name = search rules in
    let one : c.extend_from_slice.new.self.items ≡ c.loop-part.text.items ++ c.in_ok-head.head.items = search rules in
    let two : c.extend_from_slice-in-loop-part.new.self.items
    ≡ c.extend_from_slice.new.self.items ++ c.remove-run.result.text.items = search rules in
    let more : c.push_reserved.new.self.items ≡ c.loop-part.passes.items ++ c.remove-run.result.pass ∷ [] =
    search rules in
    let is = taken c.loop-part.runs.items c.remove-run.new.self.items c.remove-run.result (search rules)
    c.remove-run.ensures.value c.remove-run.ensures.items in
    let long = ap (λ (xs : List (ThreadRun _ _)). length xs) is in
    let each = c.loop-part.invariant.each in
    let all = c.args.all.now in
    let board = board_noted all.posts.now.numbers.entries all.notes.items in
    let rank = rank_noted all.posts.now.numbers.entries all.notes.items in
    let has : HasAllOf all.notes.items c.remove-run.result.notes.is_lost c.remove-run.result.notes.notes.items =
    c.has_all_of.ensures (search rules) in
    let over : IsOver (layout_of all.posts.now) c.remove-run.result =
    All-head (IsOver (layout_of all.posts.now)) c.remove-run.result c.remove-run.new.self.items
    (All-same (IsOver (layout_of all.posts.now)) _ _ (sym is) c.loop-part.invariant.over) in
    let told : IsToldBy board rank c.remove-run.result = told_by_board all.posts.now.numbers.entries all.notes.items
    c.remove-run.result (ap (λ (z : Layout). z.numbers) over) has in
    record {
      each = omega arith;
      told = told_more c.loop-part.part-index c.args.parts.now c.part-item.result c.loop-part.runs.items
          c.remove-run.new.self.items c.args.runs.items c.remove-run.result c.loop-part.passes.items
          c.push_reserved.new.self.items c.loop-part.text.items c.extend_from_slice-in-loop-part.new.self.items
          c.loop-part-test.true c.part-item.is is
          c.in-Ok.is more
          (two ∙ ap (λ l. l ++ c.remove-run.result.text.items) (one ∙ ap (λ l. c.loop-part.text.items ++ l) head))
          c.loop-part.invariant.told;
      over = All-rest (IsOver (layout_of c.args.all.now.posts.now)) c.remove-run.result c.remove-run.new.self.items
          c.loop-part.runs.items is c.loop-part.invariant.over;
      noted = λ rest. c.loop-part.invariant.noted (subst (AllByRecursion (IsToldBy board rank)) (sym is) (told, rest));
    }

pub returns-clause-ok : goal.returns-clause-ok
returns-clause-ok g c = told_end c.loop-part.part-index c.args.parts.now c.loop-part.runs.items c.args.runs.items
    c.loop-part.passes.items c.loop-part.text.items (search rules) c.loop-part.invariant.told

pub returns-clause-noted : goal.returns-clause-noted
returns-clause-noted g c =
    let all : length c.args.parts.now ≤ c.loop-part.part-index = search rules in
    let each = c.loop-part.invariant.each in
    let none : length c.loop-part.runs.items ≡ 0 = omega arith in
    c.loop-part.invariant.noted (subst (AllByRecursion (IsToldBy (board_noted c.args.all.now.posts.now.numbers.entries
    c.args.all.now.notes.items) (rank_noted c.args.all.now.posts.now.numbers.entries c.args.all.now.notes.items)))
    (sym (none_left c.loop-part.runs.items none)) tt)
