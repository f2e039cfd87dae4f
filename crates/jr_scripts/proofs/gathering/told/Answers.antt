use Rattle.std.proofs.Common.{ap, refl, subst, sym}
use Rattle.std.specs.List.{All}
use Rattle.jr_scripts.specs.Jobs.{IsOver, board_noted, entry_of, rank_noted}
use Rattle.jr_scripts.specs.Layouts.{Layout, layout_of}
use Rattle.jr_scripts.proofs.JobLists.{if_ok_both}
use Rattle.jr_scripts.proofs.NamedCells.{noted_numbered}
use Rattle.jr_scripts.proofs.gathering.told.Goals as goal

pub told_by-requires-clause-over : goal.told_by-requires-clause-over
told_by-requires-clause-over g c =
    subst (λ l. All (IsOver l) c.args.runs.items) (sym (ap layout_of c.of_all-all.ensures)) c.requires.over

pub returns-clause-ok : goal.returns-clause-ok
returns-clause-ok g c =
    let all = c.of_all-all.result in
    if_ok_both _ _ _ (λ x told noted. record {
      board = board_noted all.posts.now.numbers.entries all.notes.items;
      rank = rank_noted all.posts.now.numbers.entries all.notes.items;
      told = told;
      noted = noted;
      named = noted_numbered all.posts.now.numbers.entries c.args.board.now.numbers.entries all.notes.items entry_of
          refl (ap (λ (l : Layout). l.numbers) (ap layout_of c.of_all-all.ensures));
    }) c.told_by.result c.told_by.ensures.ok c.told_by.ensures.noted
