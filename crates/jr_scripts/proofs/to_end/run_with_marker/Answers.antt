use Rattle.std.proofs.Common.{[], sym}
use Rattle.std.proofs.lemmas.List.{append-nil}
use Rattle.jr_scripts.specs.Posting.{talk_of}
use Rattle.jr_scripts.proofs.ToEnd.{not_begun}
use Rattle.jr_scripts.proofs.to_end.run_with_marker.Goals as goal

pub returns-in_default-clause-explained : goal.returns-in_default-clause-explained
returns-in_default-clause-explained g c = (
  [],
  sym (append-nil c.args.out.now.items),
  not_begun (talk_of g.B.Board.tells g.B.Board.looked c.args.task.turns c.args.board.now) c.args.task.turns
      c.args.task.first c.args.task.commands.now,
)
